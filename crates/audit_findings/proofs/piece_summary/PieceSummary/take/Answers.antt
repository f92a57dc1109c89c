use Rattle.capture_frame.specs.Envelope.{placed_frame}
use Rattle.std.proofs.Common.{[], ◌∷◌, ◌++◌, map, refl, sym, ap, ap₂, subst, ◌∙◌, append_assoc, length, length-append, List, arith}
use Rattle.std.proofs.lemmas.List.{append-nil, map-append}
use Rattle.event_core.specs.Events.{EventRead}
use Rattle.event_core.specs.Reading.{event_text}
use Rattle.audit_findings.specs.EachProcess.{SumsOrder}
use Rattle.audit_findings.specs.Ledgers.{AreFewGiven, SumsFrames, SumsGiven}
use Rattle.audit_findings.proofs.FrameLaws.{events_with}
use Rattle.audit_findings.proofs.GivenLaws.{few_given, few_with, given_next}
use Rattle.audit_findings.proofs.SequenceLaws.{frame_count}
use Rattle.audit_findings.proofs.piece_summary.PieceSummary.take.Goals as goal

pub with-self-requires : goal.with-self-requires
with-self-requires c =
    let frames = c.requires.few.0 in
    let named = c.in_ok-name_process.ensures in
    let count = frame_count c.name_process.new.self.sequences frames (subst (λ s. SumsFrames s frames) (sym named.sequences) c.requires.few.1.sequences) in
    let short = c.requires.few.2.0 in
    let long = length-append frames (placed_frame c.args.frame ∷ []) in
    omega (arith, count, short, long)

pub name_process-requires : goal.name_process-requires
name_process-requires c = (c.requires.few.0, c.requires.few.1)

pub loop-event-init : goal.loop-event-init
loop-event-init c = (refl, refl, [], sym c.of-events.ensures, λ before sums few. subst (SumsGiven _) (sym (append-nil before)) sums)

pub add-requires : goal.add-requires
add-requires c =
    let frame = placed_frame c.args.frame in
    let sums = c.requires.few.1 in
    let few = few_with sums.given c.requires.few.0 frame sums.are_all c.requires.few.2.1 in
    let i = c.loop-event.invariant in
    let found = c.in-Some.event in
    let more = given_next frame i.2 found c.loop-event.events c.next_event.new.self i.3 (rw c.in-Some.is at c.next_event.ensures) in (
      sums.given ++ i.2,
      i.4 sums.given (c.in_ok-name_process.ensures.sums sums.given sums.sums) few,
      subst AreFewGiven (sym (append_assoc sums.given i.2 (found ∷ []))) (few_given sums.given frame (i.2 ++ found ∷ []) c.next_event.new.self few more),
    )

pub loop-event-smaller : goal.loop-event-smaller
loop-event-smaller c = let long = ap length (rw c.in-Some.is at c.next_event.ensures) in omega (arith, long)

pub loop-event-preserved : goal.loop-event-preserved
loop-event-preserved c =
    let frame = placed_frame c.args.frame in
    let i = c.loop-event.invariant in
    let found = c.in-Some.event in
    let more = given_next frame i.2 found c.loop-event.events c.next_event.new.self i.3 (rw c.in-Some.is at c.next_event.ensures) in (
      i.0,
      i.1,
      i.2 ++ found ∷ [],
      more,
      λ before sums few.
          let all = append_assoc before i.2 (found ∷ []) in
          subst (SumsGiven _) all
          (c.in_ok-add.ensures (before ++ i.2) (i.4 before sums few)
          (subst AreFewGiven (sym all) (few_given before frame (i.2 ++ found ∷ []) c.next_event.new.self few more))),
    )

pub returns : goal.returns
returns c frames sums few =
    let frame = placed_frame c.args.frame in
    let i = c.loop-event.invariant in
    let ended = (rw c.in_default.is at c.next_event.ensures).0 in
    let named = c.in_ok-name_process.ensures in
    let own = sym (append-nil (map event_text i.2)) ∙ ap (λ (es : List EventRead). map event_text i.2 ++ es) (sym ended) ∙ sym i.3 in
    record {
      sequences = subst (λ s. SumsFrames s (frames ++ frame ∷ [])) (sym i.0)
          (c.with-self.ensures frames frame (subst (λ s. SumsFrames s frames) (sym named.sequences) sums.sequences) refl);
      order = subst (λ o. SumsOrder o.entries.entries (frames ++ frame ∷ [])) (sym i.1) (named.order frames frame sums c.of_process.ensures);
      given = sums.given ++ i.2;
      are_all = map-append event_text sums.given i.2 ∙ ap₂ (λ (a b : List EventRead). a ++ b) sums.are_all own ∙ sym (events_with frames frame);
      sums = i.4 sums.given (named.sums sums.given sums.sums) (few_with sums.given frames frame sums.are_all few.1);
    }
