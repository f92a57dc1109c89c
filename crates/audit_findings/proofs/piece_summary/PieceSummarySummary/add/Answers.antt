use Rattle.std.proofs.Common.{List, ◌∷◌, [], ◌++◌, subst, sym}
use Rattle.std.proofs.lemmas.List.{map-append}
use Rattle.std.proofs.lemmas.List.Elements.{All-head}
use Rattle.std.proofs.lemmas.Result.{on_ok_weaker}
use Rattle.capture_frame.specs.Cut.{shown_by}
use Rattle.capture_frame.specs.Envelope.{PlacedFrame, placed_frame}
use Rattle.event_core.specs.declared.event.Event.{Event}
use Rattle.summary_law.specs.Fits.{all_halves}
use Rattle.transaction_view.specs.Grammar.{IsGood}
use Rattle.audit_findings.specs.Frames.{AreGoodFrames}
use Rattle.audit_findings.specs.Ledgers.{SumsGiven}
use Rattle.audit_findings.specs.Summary.{SumsPiece}
use Rattle.audit_findings.specs.declared.event_sums.EventSums.{EventSums}
use Rattle.audit_findings.specs.declared.guesses.Guesses.{Guesses}
use Rattle.audit_findings.specs.declared.piece_summary.PieceSummary.{PieceSummary}
use Rattle.audit_findings.proofs.FrameLaws.{few_shown}
use Rattle.audit_findings.proofs.piece_summary.PieceSummarySummary.add.Goals as goal

-- the summary, with other sums of the same events
other_sums : (summary : PieceSummary) (sums : EventSums) → ((events : List Event) → SumsGiven summary.of_events events → SumsGiven sums events)
    → (frames : List PlacedFrame) → SumsPiece summary frames → SumsPiece (record summary { of_events = sums }) frames
other_sums summary sums same frames of = record {
  sequences = of.sequences;
  order = of.order;
  given = of.given;
  are_all = of.are_all;
  sums = same of.given of.sums;
}

-- the summary, with other guesses
other_guesses : (summary : PieceSummary) (guesses : Guesses) (frames : List PlacedFrame) → SumsPiece summary frames
    → SumsPiece (record summary { guesses = guesses }) frames
other_guesses summary guesses frames of =
    record { sequences = of.sequences; order = of.order; given = of.given; are_all = of.are_all; sums = of.sums }

pub take-requires-clause-good : goal.take-requires-clause-good
take-requires-clause-good c =
    let good = subst AreGoodFrames (map-append placed_frame c.requires.0 (c.args.item ∷ [])) c.requires.2 in
    All-head IsGood (placed_frame c.args.item) [] (all_halves IsGood (shown_by c.requires.0) (placed_frame c.args.item ∷ []) good.good).1

pub take-requires-clause-few : goal.take-requires-clause-few
take-requires-clause-few c =
    let frames = shown_by c.requires.0 in (
      frames,
      other_sums c.args.self.now c.set_guess.new.self c.set_guess.ensures.same frames c.requires.1,
      few_shown c.requires.0 (c.args.item ∷ []) c.requires.2,
    )

pub returns : goal.returns
returns c =
    on_ok_weaker c.keep.result
    (λ kept views sums good.
    let frames = shown_by views in
    let more = frames ++ placed_frame c.args.item ∷ [] in
    let added = c.in_ok-take.ensures frames (other_sums c.args.self.now c.set_guess.new.self c.set_guess.ensures.same frames sums)
    (few_shown views (c.args.item ∷ []) good) in
    subst (SumsPiece (record c.take.new.self { guesses = c.keep.new.self })) (sym (map-append placed_frame views (c.args.item ∷ [])))
    (other_guesses c.take.new.self c.keep.new.self more added))
    c.keep.ensures
