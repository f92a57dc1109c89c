-- The events of a thread, bracketed all at once and piece by piece.
use Rattle.std.proofs.Common.{◌≡◌, Bool, true, false, cond, Option, Some, None, ◌⊎◌, inl, inr, refl, sym, ap, ◌∙◌}
use Rattle.std.proofs.Common.{List, [], ◌∷◌, ◌++◌, map}
use Rattle.std.specs.List.{fold, find, cons_option}
use Rattle.std.specs.Option.{option_or, option_to_list, option_and_then, is_some}
use Rattle.event_core.specs.declared.marks.Bracket.{Bracket}
use Rattle.event_core.specs.declared.marks.Bracket.TheVariants.{Neither}
use Rattle.event_core.specs.Brackets.{error_reply}
use Rattle.event_core.specs.declared.marks.Mark.{Mark}
use Rattle.event_core.specs.declared.marks.Mark.TheVariants.{Oneway, SentReply, Other}
use Rattle.call_stacks.specs.declared.findings.RefusedSend.{RefusedSend}
use Rattle.call_stacks.specs.Calls.{Reads, Bracketed, bracketed_with, bracketed_piece, mark_read, bracket_read, bracket_in_piece, mark_after, is_error, if_error_reply, undecided_of, refused_send, refused_of, is_refused, is_oneway_mark}
use Rattle.call_stacks.specs.Matching.{Side}
use Rattle.call_stacks.specs.Verdicts.{side_of}
use Rattle.call_stacks.proofs.MarkLaws.{no_mark, same_bracket, error_bracket, none_refused}
use Rattle.call_stacks.proofs.Model.{strays, openers, put, entry, strays-strays}

-- the bracket of an event that is not an error reply
sure_piece : (b : Bracket) → is_error b ≡ false → cond (is_error b) Neither b ≡ b
sure_piece b e = ap (λ t. cond t Neither b) e

cons_option_in_front : {X : Type 0} (o : Option X) (xs : List X) → cons_option o [] ++ xs ≡ cons_option o xs
cons_option_in_front None xs = refl
cons_option_in_front (Some x) xs = refl

true_or_false : (b : Bool) → (b ≡ true) ⊎ (b ≡ false)
true_or_false true = inl refl
true_or_false false = inr refl

module _ {E : Type 0} where
  -- an event and its side
  abbrev pub pair : Bracketed E → E × Side
  pair found = (found.event, side_of found.bracket)

  abbrev pub side : E × Side → Side
  side p = p.1

  pub not_sent : (found : Bracketed E) → is_refused found.bracket ≡ false → refused_send found ≡ None
  not_sent found e = ap (λ t. cond t (Some (record { event = found.event; oneway = is_oneway_mark found.before })) None) e

  no_opener : (before : Option Mark) (p : E × Side) (tail : List (E × Side))
      → entry (side_of (error_reply before)) p (strays side tail) (openers side tail) ≡ openers side tail
  no_opener None p tail = refl
  no_opener (Some Oneway) p tail = refl
  no_opener (Some SentReply) p tail = refl
  no_opener (Some Other) p tail = refl

module _ {E : Type 0} (reads : Reads E) where
  -- the bracketed events with their sides
  abbrev pub paired : (Option Mark → E → Bracket) → Option Mark → List E → List (E × Side)
  paired bracket_by before events = map pair (bracketed_with reads bracket_by before events)

  pub bracketed-append : (bracket_by : Option Mark → E → Bracket) (before : Option Mark) (first second : List E)
      → bracketed_with reads bracket_by before (first ++ second) ≡ bracketed_with reads bracket_by before first ++ bracketed_with reads bracket_by (fold (mark_after reads) before first) second
  bracketed-append bracket_by before [] second = refl
  bracketed-append bracket_by before (e ∷ first) second =
      ap (λ rest. record { event = e; before = before; bracket = bracket_by before e } ∷ rest) (bracketed-append bracket_by (mark_after reads before e) first second)

  -- after a mark nothing is undecided
  pub same_bracketing : (mark : Mark) (events : List E) → bracketed_with reads (bracket_in_piece reads) (Some mark) events ≡ bracketed_with reads (bracket_read reads) (Some mark) events
  same_bracketing mark [] = refl
  same_bracketing mark (e ∷ events) =
      let head : Bracketed E = record { event = e; before = Some mark; bracket = bracket_read reads (Some mark) e } in
      ap (λ rest. head ∷ rest)
      (elim (mark_read reads e) as (λ o. bracketed_with reads (bracket_in_piece reads) (option_or o (Some mark)) events ≡ bracketed_with reads (bracket_read reads) (option_or o (Some mark)) events) [
        | None ↦ same_bracketing mark events
        | Some next ↦ same_bracketing next events
      ])

  -- ---- a piece of a thread after a mark, or the whole thread: the undecided error reply comes first

  -- the undecided error reply with its side after this mark
  abbrev pub decided_pairs : Option Mark → Option E → List (E × Side)
  decided_pairs before undecided = paired (bracket_read reads) before (option_to_list undecided)

  abbrev pub decided_refused : Option Mark → Option E → List (RefusedSend E)
  decided_refused before undecided = refused_of (bracketed_with reads (bracket_read reads) before (option_to_list undecided))

  pub record Decided (before : Option Mark) (events : List E) : Type 0 where
    pub strays_are : strays side (paired (bracket_read reads) before events)
        ≡ strays side (decided_pairs before (undecided_of reads events) ++ strays side (paired (bracket_in_piece reads) None events))
    pub openers_are : openers side (paired (bracket_read reads) before events) ≡ openers side (paired (bracket_in_piece reads) None events)
    pub refused_are : refused_of (bracketed_with reads (bracket_read reads) before events)
        ≡ decided_refused before (undecided_of reads events) ++ refused_of (bracketed_piece reads events)

  -- the undecided error reply of an event that leaves this mark and of later events
  abbrev undecided_from : E → List E → Option Mark → Option E
  undecided_from e later mark = option_and_then (if_error_reply reads) (cond (is_some mark) (Some e) (find (λ event. is_some (mark_read reads event)) later))

  record DecidedAt (before : Option Mark) (e : E) (later : List E) (mark : Option Mark) : Type 0 where
    strays_are : put (side_of (bracket_read reads before e)) (e, side_of (bracket_read reads before e)) (strays side (paired (bracket_read reads) (option_or mark before) later))
        ≡ strays side (decided_pairs before (undecided_from e later mark)
        ++ put (side_of (bracket_in_piece reads None e)) (e, side_of (bracket_in_piece reads None e)) (strays side (paired (bracket_in_piece reads) (option_or mark None) later)))
    openers_are : entry (side_of (bracket_read reads before e)) (e, side_of (bracket_read reads before e))
        (strays side (paired (bracket_read reads) (option_or mark before) later)) (openers side (paired (bracket_read reads) (option_or mark before) later))
        ≡ entry (side_of (bracket_in_piece reads None e)) (e, side_of (bracket_in_piece reads None e))
        (strays side (paired (bracket_in_piece reads) (option_or mark None) later)) (openers side (paired (bracket_in_piece reads) (option_or mark None) later))
    refused_are : cons_option (refused_send (record { event = e; before = before; bracket = bracket_read reads before e })) (refused_of (bracketed_with reads (bracket_read reads)
        (option_or mark before) later))
        ≡ decided_refused before (undecided_from e later mark)
        ++ cons_option (refused_send (record { event = e; before = None; bracket = bracket_in_piece reads None e })) (refused_of (bracketed_with reads (bracket_in_piece reads)
        (option_or mark None) later))

  -- an event that is neither an opener nor a closer
  piece_neither : (e : E) → bracket_read reads None e ≡ Neither → bracket_in_piece reads None e ≡ Neither
  piece_neither e none = ap (λ (b : Bracket). cond (is_error b) Neither b) none

  no_mark_step : (before : Option Mark) (e : E) (later : List E) → mark_read reads e ≡ None → Decided before later → DecidedAt before e later None
  no_mark_step before e later none decided =
      let whole : bracket_read reads before e ≡ Neither = no_mark before (reads.kind e) (reads.oneway e) none in
      let part : bracket_in_piece reads None e ≡ Neither = piece_neither e (no_mark None (reads.kind e) (reads.oneway e) none) in
      let whole_later = paired (bracket_read reads) before later in
      let piece_later = paired (bracket_in_piece reads) None later in
      record {
        strays_are = ap (λ (b : Bracket). put (side_of b) (e, side_of b) (strays side whole_later)) whole
            ∙ decided.strays_are
            ∙ ap (λ (b : Bracket). strays side (decided_pairs before (undecided_of reads later) ++ put (side_of b) (e, side_of b) (strays side piece_later))) (sym part);
        openers_are = ap (λ (b : Bracket). entry (side_of b) (e, side_of b) (strays side whole_later) (openers side whole_later)) whole
            ∙ decided.openers_are
            ∙ ap (λ (b : Bracket). entry (side_of b) (e, side_of b) (strays side piece_later) (openers side piece_later)) (sym part);
        refused_are = ap (λ (b : Bracket). cons_option (refused_send (record { event = e; before = before; bracket = b })) (refused_of
            (bracketed_with reads (bracket_read reads) before later))) whole
            ∙ decided.refused_are
            ∙ ap (λ (b : Bracket). decided_refused before (undecided_of reads later) ++ cons_option (refused_send (record { event = e; before = None; bracket = b }))
            (refused_of (bracketed_piece reads later))) (sym part);
      }

  -- an event that is not an error reply
  sure_undecided : (e : E) → is_error (bracket_read reads None e) ≡ false → if_error_reply reads e ≡ None
  sure_undecided e sure = ap (λ t. cond t (Some e) None) sure

  sure_step : (before : Option Mark) (e : E) (later : List E) (mark : Mark) → is_error (bracket_read reads None e) ≡ false
      → DecidedAt before e later (Some mark)
  sure_step before e later mark sure =
      let whole : bracket_read reads before e ≡ bracket_read reads None e = same_bracket before (reads.kind e) (reads.oneway e) sure in
      let part : bracket_in_piece reads None e ≡ bracket_read reads None e = sure_piece (bracket_read reads None e) sure in
      let rest = same_bracketing mark later in
      let whole_later = paired (bracket_read reads) (Some mark) later in
      let piece_later = paired (bracket_in_piece reads) (Some mark) later in
      let rest_pairs : piece_later ≡ whole_later = ap (map pair) rest in
      let at = λ (b : Bracket) (tail : List (E × Side)). put (side_of b) (e, side_of b) (strays side tail) in
      let at_open = λ (b : Bracket) (tail : List (E × Side)). entry (side_of b) (e, side_of b) (strays side tail) (openers side tail) in
      let none : if_error_reply reads e ≡ None = sure_undecided e sure in
      let plain : is_refused (bracket_read reads None e) ≡ false = none_refused (reads.kind e) (reads.oneway e) in
      let whole_found : Bracketed E = record { event = e; before = before; bracket = bracket_read reads before e } in
      let part_found : Bracketed E = record { event = e; before = None; bracket = bracket_in_piece reads None e } in
      let in_part : strays side ((e, side_of (bracket_in_piece reads None e)) ∷ piece_later) ≡ at (bracket_read reads before e) whole_later
      = ap (λ (b : Bracket). at b piece_later) (part ∙ sym whole) ∙ ap (at (bracket_read reads before e)) rest_pairs in
      record {
        strays_are = sym in_part
            ∙ sym (strays-strays side ((e, side_of (bracket_in_piece reads None e)) ∷ piece_later))
            ∙ ap (λ u. strays side (decided_pairs before u ++ strays side ((e, side_of (bracket_in_piece reads None e)) ∷ piece_later))) (sym none);
        openers_are = ap (λ (b : Bracket). at_open b whole_later) (whole ∙ sym part) ∙ ap (at_open (bracket_in_piece reads None e)) (sym rest_pairs);
        refused_are = ap (λ o. cons_option o (refused_of (bracketed_with reads (bracket_read reads) (Some mark) later))) (not_sent whole_found (ap is_refused whole ∙ plain))
            ∙ ap refused_of (sym rest)
            ∙ ap (λ o. cons_option o (refused_of (bracketed_with reads (bracket_in_piece reads) (Some mark) later))) (sym (not_sent part_found (ap is_refused part ∙ plain)))
            ∙ ap (λ u. decided_refused before u ++ cons_option (refused_send part_found) (refused_of (bracketed_with reads (bracket_in_piece reads) (Some mark) later))) (sym none);
      }

  -- an error reply
  pub error_openers : (before : Option Mark) (e : E) (tail : List (E × Side)) → is_error (bracket_read reads None e) ≡ true
      → entry (side_of (bracket_read reads before e)) (e, side_of (bracket_read reads before e)) (strays side tail) (openers side tail) ≡ openers side tail
  error_openers before e tail error =
      ap (λ (b : Bracket). entry (side_of b) (e, side_of b) (strays side tail) (openers side tail)) (error_bracket before (reads.kind e) (reads.oneway e) error)
      ∙ no_opener before (e, side_of (error_reply before)) tail

  error_step : (before : Option Mark) (e : E) (later : List E) (mark : Mark) → is_error (bracket_read reads None e) ≡ true
      → DecidedAt before e later (Some mark)
  error_step before e later mark error =
      let part : bracket_in_piece reads None e ≡ Neither = ap (λ t. cond t Neither (bracket_read reads None e)) error in
      let undecided : if_error_reply reads e ≡ Some e = ap (λ t. cond t (Some e) None) error in
      let rest = same_bracketing mark later in
      let whole_later = paired (bracket_read reads) (Some mark) later in
      let piece_later = paired (bracket_in_piece reads) (Some mark) later in
      let rest_pairs : piece_later ≡ whole_later = ap (map pair) rest in
      let at = λ (b : Bracket) (tail : List (E × Side)). put (side_of b) (e, side_of b) (strays side tail) in
      let at_open = λ (b : Bracket) (tail : List (E × Side)). entry (side_of b) (e, side_of b) (strays side tail) (openers side tail) in
      let whole_found : Bracketed E = record { event = e; before = before; bracket = bracket_read reads before e } in
      let part_found : Bracketed E = record { event = e; before = None; bracket = bracket_in_piece reads None e } in
      let in_part : at (bracket_in_piece reads None e) piece_later ≡ strays side whole_later
      = ap (λ (b : Bracket). at b piece_later) part ∙ ap (strays side) rest_pairs in
      let head = put (side_of (bracket_read reads before e)) (e, side_of (bracket_read reads before e)) in
      record {
        strays_are = ap head (sym (strays-strays side whole_later))
            ∙ ap (λ t. head (strays side t)) (sym in_part)
            ∙ ap (λ u. strays side (decided_pairs before u ++ at (bracket_in_piece reads None e) piece_later)) (sym undecided);
        openers_are = error_openers before e whole_later error
            ∙ ap (openers side) (sym rest_pairs)
            ∙ ap (λ (b : Bracket). at_open b piece_later) (sym part);
        refused_are = ap (λ t. cons_option (refused_send whole_found) (refused_of t)) (sym rest)
            ∙ sym (cons_option_in_front (refused_send whole_found) (refused_of (bracketed_with reads (bracket_in_piece reads) (Some mark) later)))
            ∙ ap (λ o. cons_option (refused_send whole_found) [] ++ cons_option o (refused_of (bracketed_with reads (bracket_in_piece reads) (Some mark) later)))
            (sym (not_sent part_found (ap is_refused part)))
            ∙ ap (λ u. decided_refused before u ++ cons_option (refused_send part_found) (refused_of (bracketed_with reads (bracket_in_piece reads) (Some mark) later)))
            (sym undecided);
      }

  mark_step : (before : Option Mark) (e : E) (later : List E) (mark : Mark) → DecidedAt before e later (Some mark)
  mark_step before e later mark =
      elim (true_or_false (is_error (bracket_read reads None e))) [
        | inl error ↦ error_step before e later mark error
        | inr sure ↦ sure_step before e later mark sure
      ]

  decided_step : (before : Option Mark) (e : E) (later : List E) (mark : Option Mark) → mark_read reads e ≡ mark → Decided before later
      → DecidedAt before e later mark
  decided_step before e later None is decided = no_mark_step before e later is decided
  decided_step before e later (Some mark) is decided = mark_step before e later mark

  pub decided : (before : Option Mark) (events : List E) → Decided before events
  decided before [] = record { strays_are = refl; openers_are = refl; refused_are = refl }
  decided before (e ∷ later) =
      let step = decided_step before e later (mark_read reads e) refl (decided before later) in
      record { strays_are = step.strays_are; openers_are = step.openers_are; refused_are = step.refused_are }
