-- Events that leave no mark change nothing in the calls of their thread.
use Rattle.std.proofs.Common.{◌≡◌, Bool, true, false, cond, Option, Some, None, refl, sym, ap, ap₂, ◌∙◌, List, [], ◌∷◌, map}
use Rattle.std.specs.List.{filter, find, fold, cons_option}
use Rattle.std.specs.Option.{is_some, option_or, option_and_then}
use Rattle.event_core.specs.declared.marks.Bracket.{Bracket}
use Rattle.event_core.specs.declared.marks.Bracket.TheVariants.{Neither}
use Rattle.event_core.specs.declared.marks.Mark.{Mark}
use Rattle.summary_law.specs.Fits.{IsPlaced}
use Rattle.call_stacks.specs.declared.calls.Calls.{Calls}
use Rattle.call_stacks.specs.Calls.{Reads, bracketed_with, mark_read, mark_after}
use Rattle.call_stacks.specs.Calls.{CallsSum, bracket_in_piece, if_error_reply, is_error, refused_of, refused_send}
use Rattle.call_stacks.specs.Content.{content_of}
use Rattle.call_stacks.specs.Verdicts.{side_of}
use Rattle.call_stacks.proofs.Bracketing.{side, paired}
use Rattle.call_stacks.proofs.Lists.{event_of}
use Rattle.call_stacks.proofs.MarkLaws.{no_mark}
use Rattle.call_stacks.proofs.Model.{strays, openers, put, entry}
use Rattle.call_stacks.proofs.Steps.{holds_same}
use Rattle.call_stacks.proofs.Sums.{holds, sums, marked}

module _ {E : Type 0} (reads : Reads E) where
  -- the events have the same findings with and without those that leave no mark, after the same mark
  record SameWithout (before : Option Mark) (events : List E) : Type 0 where
    strays_are : strays side (paired reads (bracket_in_piece reads) before (filter (marked reads) events)) ≡ strays side (paired reads (bracket_in_piece reads) before events)
    openers_are : openers side (paired reads (bracket_in_piece reads) before (filter (marked reads) events)) ≡ openers side (paired reads (bracket_in_piece reads) before events)
    refused_are : refused_of (bracketed_with reads (bracket_in_piece reads) before (filter (marked reads) events)) ≡ refused_of (bracketed_with reads (bracket_in_piece reads) before events)
    last_is : fold (mark_after reads) before (filter (marked reads) events) ≡ fold (mark_after reads) before events

  plain_bracket : (before : Option Mark) (e : E) → mark_read reads e ≡ None → bracket_in_piece reads before e ≡ Neither
  plain_bracket None e none = ap (λ (b : Bracket). cond (is_error b) Neither b) (no_mark None (reads.kind e) (reads.oneway e) none)
  plain_bracket (Some mark) e none = no_mark (Some mark) (reads.kind e) (reads.oneway e) none

  -- an event without a mark
  plain_step : (before : Option Mark) (e : E) (events : List E) → mark_read reads e ≡ None → SameWithout before events
      → SameWithout before (e ∷ events)
  plain_step before e events none rest =
      let kept : filter (marked reads) (e ∷ events) ≡ filter (marked reads) events
      = ap (λ (o : Option Mark). cond (is_some o) (e ∷ filter (marked reads) events) (filter (marked reads) events)) none in
      let after : mark_after reads before e ≡ before = ap (λ (o : Option Mark). option_or o before) none in
      let bracket = plain_bracket before e none in
      let later = λ (m : Option Mark). paired reads (bracket_in_piece reads) m events in
      let sent = λ (b : Bracket) (m : Option Mark).
      cons_option (refused_send (record { event = e; before = before; bracket = b })) (refused_of (bracketed_with reads (bracket_in_piece reads) m events)) in
      record {
        strays_are = ap (λ l. strays side (paired reads (bracket_in_piece reads) before l)) kept ∙ rest.strays_are
            ∙ ap (λ (m : Option Mark). strays side (later m)) (sym after)
            ∙ ap (λ (b : Bracket). put (side_of b) (e, side_of b) (strays side (later (mark_after reads before e)))) (sym bracket);
        openers_are = ap (λ l. openers side (paired reads (bracket_in_piece reads) before l)) kept ∙ rest.openers_are
            ∙ ap (λ (m : Option Mark). openers side (later m)) (sym after)
            ∙ ap (λ (b : Bracket). entry (side_of b) (e, side_of b) (strays side (later (mark_after reads before e)))
            (openers side (later (mark_after reads before e)))) (sym bracket);
        refused_are = ap (λ l. refused_of (bracketed_with reads (bracket_in_piece reads) before l)) kept ∙ rest.refused_are
            ∙ ap (λ (m : Option Mark). refused_of (bracketed_with reads (bracket_in_piece reads) m events)) (sym after)
            ∙ ap (λ (b : Bracket). sent b (mark_after reads before e)) (sym bracket);
        last_is = ap (fold (mark_after reads) before) kept ∙ rest.last_is ∙ ap (λ (m : Option Mark). fold (mark_after reads) m events) (sym after);
      }

  -- an event with a mark
  marked_step : (before : Option Mark) (e : E) (events : List E) (mark : Mark) → mark_read reads e ≡ Some mark
      → SameWithout (mark_after reads before e) events → SameWithout before (e ∷ events)
  marked_step before e events mark is rest =
      let kept : filter (marked reads) (e ∷ events) ≡ e ∷ filter (marked reads) events
      = ap (λ (o : Option Mark). cond (is_some o) (e ∷ filter (marked reads) events) (filter (marked reads) events)) is in
      let b = bracket_in_piece reads before e in
      record {
        strays_are = ap (λ l. strays side (paired reads (bracket_in_piece reads) before l)) kept ∙ ap (put (side_of b) (e, side_of b)) rest.strays_are;
        openers_are = ap (λ l. openers side (paired reads (bracket_in_piece reads) before l)) kept
            ∙ ap₂ (entry (side_of b) (e, side_of b)) rest.strays_are rest.openers_are;
        refused_are = ap (λ l. refused_of (bracketed_with reads (bracket_in_piece reads) before l)) kept
            ∙ ap (cons_option (refused_send (record { event = e; before = before; bracket = b }))) rest.refused_are;
        last_is = ap (fold (mark_after reads) before) kept ∙ rest.last_is;
      }

  same_without : (before : Option Mark) (events : List E) → SameWithout before events
  same_without before [] = record { strays_are = refl; openers_are = refl; refused_are = refl; last_is = refl }
  same_without before (e ∷ events) =
      elim (mark_read reads e) as (λ o. (mark_read reads e ≡ o) → SameWithout before (e ∷ events)) [
        | None ↦ λ none. plain_step before e events none (same_without before events)
        | Some mark ↦ λ is. marked_step before e events mark is (same_without (mark_after reads before e) events)
      ] refl

  first_marked : (events : List E) → find (marked reads) (filter (marked reads) events) ≡ find (marked reads) events
  first_marked [] = refl
  first_marked (e ∷ events) =
      elim (marked reads e) as (λ b. (marked reads e ≡ b) → find (marked reads) (cond b (e ∷ filter (marked reads) events) (filter (marked reads) events))
      ≡ cond b (Some e) (find (marked reads) events)) [
        | true ↦ λ is. ap (λ b. cond b (Some e) (find (marked reads) (filter (marked reads) events))) is
        | false ↦ λ is. first_marked events
      ] refl

  -- a value that sums those events of a thread that leave a mark sums all its events
  pub with_unmarked : (all_kept : Bool) (calls : Calls E) (events : List E) → IsPlaced reads.place events
      → CallsSum reads all_kept calls (filter (marked reads) events) → CallsSum reads all_kept calls events
  with_unmarked all_kept calls events placed summed =
      let held = holds reads all_kept calls (filter (marked reads) events) summed in
      let same = same_without None events in
      sums reads all_kept calls events (record {
        placed = placed;
        last = held.last ∙ same.last_is;
        undecided = held.undecided ∙ ap (option_and_then (if_error_reply reads)) (first_marked events);
        models = record {
          calls = holds_same reads all_kept (content_of calls) (openers side (paired reads (bracket_in_piece reads) None (filter (marked reads) events)))
              (openers side (paired reads (bracket_in_piece reads) None events)) same.openers_are held.models.calls;
          strays_are = held.models.strays_are ∙ ap (map event_of) same.strays_are;
        };
        refused = held.refused ∙ same.refused_are;
      })
