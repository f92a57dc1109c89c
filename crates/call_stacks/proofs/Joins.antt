-- What a value holds after a join, and what is found in the end.
use Rattle.std.proofs.Common.{◌≡◌, ◌<◌, ◌⊎◌, Bool, true, false, cond, Option, Some, None, refl, sym, ap, subst, ◌∙◌, inl, inr, arith}
use Rattle.std.proofs.Common.{List, [], ◌∷◌, ◌++◌, map, append_assoc, length-append, get_or}
use Rattle.std.proofs.lemmas.List.{append-nil, map-append}
use Rattle.std.proofs.lemmas.List.Sums.{fold-append}
use Rattle.std.proofs.lemmas.List.Elements.{All-contains}
use Rattle.std.proofs.lemmas.List.Quantifiers.{all_pairs_push}
use Rattle.std.proofs.lemmas.Option.{cond_some, same_Some}
use Rattle.std.specs.List.{find}
use Rattle.std.specs.List.Sorted.{IsPermutation, IsNonDecreasingBy}
use Rattle.std.specs.Option.{option_or, option_to_list, option_and_then}
use Rattle.event_core.specs.declared.marks.Bracket.{Bracket}
use Rattle.event_core.specs.declared.marks.Bracket.TheVariants.{Neither}
use Rattle.event_core.specs.declared.marks.Mark.{Mark}
use Rattle.summary_law.specs.Fits.{IsPlaced, rising_halves}
use Rattle.summary_law.proofs.RisingLaws.{rising_apart}
use Rattle.summary_law.specs.Summary.{Adds}
use Rattle.call_stacks.specs.declared.findings.CallFindings.{CallFindings}
use Rattle.call_stacks.specs.declared.findings.RefusedSend.{RefusedSend}
use Rattle.call_stacks.specs.declared.calls.Calls.{Calls}
use Rattle.call_stacks.specs.Calls.{Reads, bracketed_with, bracketed_of, bracketed_piece, opener_place, bracket_read, bracket_in_piece, mark_after, last_mark, is_error, is_refused, if_error_reply, undecided_of, refused_of, openers_of, strays_in, CallsSum, AreFindings, how_many, kept_of, open_call, with_verdict}
use Rattle.call_stacks.specs.Content.{Content, content_of, sum_64, ClosesAll, appended}
use Rattle.call_stacks.specs.Matching.{Side}
use Rattle.call_stacks.specs.Verdicts.{side_of, is_answered, is_open, is_replied}
use Rattle.call_stacks.proofs.MarkLaws.{error_bracket, none_refused}
use Rattle.call_stacks.proofs.Bracketing.{pair, side, paired, same_bracketing, decided, error_openers, decided_pairs, decided_refused}
use Rattle.call_stacks.proofs.Found.{openers-found, strays-found}
use Rattle.call_stacks.proofs.Lists.{found, event_of, openers_found, openers_listed}
use Rattle.summary_law.proofs.Members.{In, Rises, contained, rises_from_pairs}
use Rattle.call_stacks.proofs.Model.{strays, openers, put, entry, strays-append, openers-append, strays-strays, AllClosers, strays_closers, strays_of_closers, openers_of_closers}
use Rattle.call_stacks.proofs.Kept.{kept_in_place}
use Rattle.call_stacks.proofs.Steps.{all_found, HoldsCalls, holds_both, holds_same, Models, closes_all_models, as_closers}
use Rattle.call_stacks.proofs.Sums.{Holds, holds, marked, paired-append, refused-append, none_of_one, closes_keeps, fold_mark, no_mark_undecided, undecided_kept, undecided_later, error_alone, exact_count}

find_in : {X : Type 0} (test : X → Bool) (xs : List X) (x : X) → find test xs ≡ Some x → In x xs
find_in test [] x e = absurd cc
find_in test (y ∷ xs) x e =
    elim (test y) as (λ b. cond b (Some y) (find test xs) ≡ Some x → In x (y ∷ xs)) [
      | true ↦ λ here. inl (sym (same_Some y x here))
      | false ↦ λ there. inr (find_in test xs x there)
    ] e

module _ {E : Type 0} (reads : Reads E) where
  -- ---- the undecided error reply

  error_found : (o : Option E) (u : E) → option_and_then (if_error_reply reads) o ≡ Some u
      → (o ≡ Some u) × (is_error (bracket_read reads None u) ≡ true)
  error_found None u e = absurd cc
  error_found (Some x) u e =
      let both = cond_some (is_error (bracket_read reads None x)) x u e in
      (ap Some both.1, ap (λ (y : E). is_error (bracket_read reads None y)) (sym both.1) ∙ both.0)

  -- if there is one, it is an error reply
  abbrev IsError : Option E → Type 0
  IsError undecided = (u : E) → undecided ≡ Some u → is_error (bracket_read reads None u) ≡ true

  -- the undecided error reply with its side after this mark
  abbrev undecided_pairs : Option Mark → Option E → List (E × Side)
  undecided_pairs before undecided = paired reads (bracket_in_piece reads) before (option_to_list undecided)

  abbrev undecided_refused : Option Mark → Option E → List (RefusedSend E)
  undecided_refused before undecided = refused_of (bracketed_with reads (bracket_in_piece reads) before (option_to_list undecided))

  piece_error : (e : E) → is_error (bracket_read reads None e) ≡ true → bracket_in_piece reads None e ≡ Neither
  piece_error e error = ap (λ b. cond b Neither (bracket_read reads None e)) error

  error_entry : (before : Option Mark) (e : E) (tail : List (E × Side)) → is_error (bracket_read reads None e) ≡ true
      → entry (side_of (bracket_in_piece reads before e)) (e, side_of (bracket_in_piece reads before e)) (strays side tail) (openers side tail) ≡ openers side tail
  error_entry None e tail error =
      ap (λ (b : Bracket). entry (side_of b) (e, side_of b) (strays side tail) (openers side tail)) (piece_error e error)
  error_entry (Some mark) e tail error = error_openers reads (Some mark) e tail error

  undecided_openers : (before : Option Mark) (undecided : Option E) (tail : List (E × Side)) → IsError undecided
      → openers side (undecided_pairs before undecided ++ tail) ≡ openers side tail
  undecided_openers before None tail error = refl
  undecided_openers before (Some u) tail error = error_entry before u tail (error u refl)

  undecided_strays : (undecided : Option E) (tail : List (E × Side)) → IsError undecided
      → strays side (undecided_pairs None undecided ++ tail) ≡ strays side tail
  undecided_strays None tail error = refl
  undecided_strays (Some u) tail error = ap (λ (b : Bracket). put (side_of b) (u, side_of b) (strays side tail)) (piece_error u (error u refl))

  none_undecided_refused : (undecided : Option E) → IsError undecided → undecided_refused None undecided ≡ []
  none_undecided_refused None error = refl
  none_undecided_refused (Some u) error = none_of_one (bracket_in_piece reads None u) u None (ap is_refused (piece_error u (error u refl)))

  -- ---- a later piece, after a mark

  record AfterMark (before : Option Mark) (later : List E) : Type 0 where
    strays_are : strays side (paired reads (bracket_in_piece reads) before later)
        ≡ strays side (undecided_pairs before (undecided_of reads later) ++ strays side (paired reads (bracket_in_piece reads) None later))
    openers_are : openers side (paired reads (bracket_in_piece reads) before later) ≡ openers side (paired reads (bracket_in_piece reads) None later)
    refused_are : refused_of (bracketed_with reads (bracket_in_piece reads) before later) ≡ undecided_refused before (undecided_of reads later) ++ refused_of (bracketed_piece reads later)

  is_error_of : (later : List E) → IsError (undecided_of reads later)
  is_error_of later u e = (error_found _ u e).1

  after_mark : (before : Option Mark) (later : List E) → AfterMark before later
  after_mark None later =
      let part = paired reads (bracket_in_piece reads) None later in
      record {
        strays_are = sym (strays-strays side part) ∙ sym (undecided_strays (undecided_of reads later) (strays side part) (is_error_of later));
        openers_are = refl;
        refused_are = ap (λ t. t ++ refused_of (bracketed_piece reads later)) (sym (none_undecided_refused (undecided_of reads later) (is_error_of later)));
      }
  after_mark (Some mark) later =
      let settled = decided reads (Some mark) later in
      let whole = same_bracketing reads mark later in
      let one = same_bracketing reads mark (option_to_list (undecided_of reads later)) in
      let part = paired reads (bracket_in_piece reads) None later in
      record {
        strays_are = ap (λ l. strays side (map pair l)) whole ∙ settled.strays_are ∙ ap (λ l. strays side (map pair l ++ strays side part)) (sym one);
        openers_are = ap (λ l. openers side (map pair l)) whole ∙ settled.openers_are;
        refused_are = ap refused_of whole ∙ settled.refused_are ∙ ap (λ l. refused_of l ++ refused_of (bracketed_piece reads later)) (sym one);
      }

  -- ---- the sides of both pieces

  closers_same : (items : List (E × Side)) → AllClosers side items → as_closers (map event_of items) ≡ items
  closers_same [] all = refl
  closers_same (p ∷ items) all =
      ap (λ (s : Side). (p.0, s) ∷ as_closers (map event_of items)) (sym all.0) ∙ ap (λ t. p ∷ t) (closers_same items all.1)

  -- the first piece with the undecided error reply, and then the unmatched closers of the second
  abbrev with_closers : List E → List E → List (E × Side)
  with_closers first second =
      paired reads (bracket_in_piece reads) None (first ++ option_to_list (undecided_of reads second))
      ++ as_closers (map event_of (strays side (paired reads (bracket_in_piece reads) None second)))

  with_closers_are : (first second : List E) → with_closers first second
      ≡ paired reads (bracket_in_piece reads) None first ++ (undecided_pairs (last_mark reads first) (undecided_of reads second) ++ strays side (paired reads (bracket_in_piece reads) None second))
  with_closers_are first second =
      let part = paired reads (bracket_in_piece reads) None second in
      let front = paired reads (bracket_in_piece reads) None first in
      let one = undecided_pairs (last_mark reads first) (undecided_of reads second) in
      ap (λ t. t ++ as_closers (map event_of (strays side part))) (paired-append reads (bracket_in_piece reads) None first (option_to_list (undecided_of reads second)))
      ∙ ap (λ t. front ++ one ++ t) (closers_same (strays side part) (strays_closers side part))
      ∙ append_assoc front one (strays side part)

  joined_strays : (first second : List E) → strays side (paired reads (bracket_in_piece reads) None (first ++ second)) ≡ strays side (with_closers first second)
  joined_strays first second =
      let after = after_mark (last_mark reads first) second in
      let front = paired reads (bracket_in_piece reads) None first in
      let back = paired reads (bracket_in_piece reads) (last_mark reads first) second in
      let closing = undecided_pairs (last_mark reads first) (undecided_of reads second) ++ strays side (paired reads (bracket_in_piece reads) None second) in
      ap (strays side) (paired-append reads (bracket_in_piece reads) None first second)
      ∙ strays-append side front back
      ∙ ap (λ t. strays side (front ++ t)) after.strays_are
      ∙ sym (strays-append side front closing)
      ∙ ap (strays side) (sym (with_closers_are first second))

  joined_openers : (first second : List E) → openers side (paired reads (bracket_in_piece reads) None (first ++ second))
      ≡ openers side (with_closers first second) ++ openers side (paired reads (bracket_in_piece reads) None second)
  joined_openers first second =
      let after = after_mark (last_mark reads first) second in
      let front = paired reads (bracket_in_piece reads) None first in
      let back = paired reads (bracket_in_piece reads) (last_mark reads first) second in
      let part = paired reads (bracket_in_piece reads) None second in
      let closing = undecided_pairs (last_mark reads first) (undecided_of reads second) ++ strays side part in
      let none : openers side closing ≡ []
      = undecided_openers (last_mark reads first) (undecided_of reads second) (strays side part) (is_error_of second)
      ∙ openers_of_closers side (strays side part) (strays_closers side part)
      in
      ap (openers side) (paired-append reads (bracket_in_piece reads) None first second)
      ∙ openers-append side front back
      ∙ ap (λ t. openers side (front ++ t) ++ openers side back) after.strays_are
      ∙ ap (λ t. openers side (front ++ strays side closing) ++ t) after.openers_are
      ∙ ap (λ t. t ++ openers side part) (sym (append-nil (openers side (front ++ strays side closing))))
      ∙ ap (λ t. openers side (front ++ strays side closing) ++ t ++ openers side part) (sym none)
      ∙ ap (λ t. t ++ openers side part) (sym (openers-append side front closing))
      ∙ ap (λ t. openers side t ++ openers side part) (sym (with_closers_are first second))

  undecided_again : (undecided : Option E) → IsError undecided → undecided_of reads (option_to_list undecided) ≡ undecided
  undecided_again None error = refl
  undecided_again (Some u) error = error_alone reads u (error u refl)

  joined_undecided : (before : Option Mark) (first second : List E) → before ≡ last_mark reads first
      → undecided_of reads (first ++ option_to_list (undecided_of reads second)) ≡ undecided_of reads (first ++ second)
  joined_undecided None first second is =
      undecided_later reads first (option_to_list (undecided_of reads second)) (sym is)
      ∙ undecided_again (undecided_of reads second) (is_error_of second)
      ∙ sym (undecided_later reads first second (sym is))
  joined_undecided (Some mark) first second is =
      undecided_kept reads mark first (option_to_list (undecided_of reads second)) (sym is) ∙ sym (undecided_kept reads mark first second (sym is))

  last_both : (first second : List E) → last_mark reads (first ++ second) ≡ option_or (last_mark reads second) (last_mark reads first)
  last_both first second = fold-append (mark_after reads) None first second ∙ fold_mark reads (last_mark reads first) second

  joined_last : (mark : Option Mark) (first second : List E) → last_mark reads second ≡ mark
      → option_or mark (last_mark reads (first ++ option_to_list (undecided_of reads second))) ≡ last_mark reads (first ++ second)
  joined_last None first second is =
      ap (λ o. last_mark reads (first ++ option_to_list o)) (no_mark_undecided reads second is)
      ∙ ap (last_mark reads) (append-nil first)
      ∙ ap (λ o. option_or o (last_mark reads first)) (sym is)
      ∙ sym (last_both first second)
  joined_last (Some mark) first second is = ap (λ o. option_or o (last_mark reads first)) (sym is) ∙ sym (last_both first second)

  -- ---- the end

  whole_strays : (undecided : Option E) (closers : List (E × Side)) → AllClosers side closers → IsError undecided
      → map event_of (strays side (decided_pairs reads None undecided ++ closers)) ≡ option_to_list undecided ++ map event_of closers
  whole_strays None closers all error = ap (map event_of) (strays_of_closers side closers all)
  whole_strays (Some u) closers all error =
      ap (λ (b : Bracket). map event_of (put (side_of b) (u, side_of b) (strays side closers))) (error_bracket None (reads.kind u) (reads.oneway u) (error u refl))
      ∙ ap (λ l. u ∷ map event_of l) (strays_of_closers side closers all)

  whole_refused : (undecided : Option E) → IsError undecided → decided_refused reads None undecided ≡ []
  whole_refused None error = refl
  whole_refused (Some u) error = none_of_one (bracket_read reads None u) u None (none_refused (reads.kind u) (reads.oneway u))

  -- ---- the first piece with the undecided error reply

  undecided_in : (events : List E) (u : E) → undecided_of reads events ≡ Some u → In u events
  undecided_in events u e = find_in (marked reads) events u (error_found (find (marked reads) events) u e).0

  pub placed_undecided : (first second : List E) (u : E) → IsPlaced reads.place (first ++ second) → undecided_of reads second ≡ Some u
      → IsPlaced reads.place (first ++ u ∷ [])
  placed_undecided first second u placed e =
      let there = contained second u (undecided_in second u e) in
      let within = there.1 in
      let parts = rising_halves reads.place first second placed.1 in
      let apart = rising_apart reads.place first second placed.1 in
      let few = placed.0 in
      let a = length-append first second in
      let b = length-append first (u ∷ []) in (
        omega arith,
        all_pairs_push (λ x y. reads.place x < reads.place y) first u parts.0
            (λ k d inside. All-contains (λ y. reads.place (get_or first k d) < reads.place y) second u (apart k d inside) there),
      )

module _ {E : Type 0} (reads : Reads E) (all_kept : Bool) where
  -- ---- the join

  closes_all_keeps : (old new : Content E) (events : List E) → ClosesAll reads all_kept old events new
      → (new.last ≡ old.last) × (new.undecided ≡ old.undecided) × (new.refused ≡ old.refused)
  closes_all_keeps old new [] is = (ap (λ (c : Content E). c.last) is, ap (λ (c : Content E). c.undecided) is, ap (λ (c : Content E). c.refused) is)
  closes_all_keeps old new (e ∷ events) step =
      let first = closes_keeps reads all_kept old step.0 e step.1 in
      let rest = closes_all_keeps step.0 new events step.2 in
      (rest.0 ∙ first.0, rest.1 ∙ first.1, rest.2 ∙ first.2)

  pub closed_models : (joined later closed : Content E) (first second : List E) → Holds reads all_kept joined (first ++ option_to_list (undecided_of reads second))
      → Holds reads all_kept later second
      → ClosesAll reads all_kept joined later.strays closed → Models reads all_kept closed (with_closers reads first second)
  closed_models joined later closed first second front back closes =
      closes_all_models reads all_kept joined closed (paired reads (bracket_in_piece reads) None (first ++ option_to_list (undecided_of reads second)))
      (map event_of (strays side (paired reads (bracket_in_piece reads) None second))) front.models
      (subst (λ (l : List E). ClosesAll reads all_kept joined l closed) back.models.strays_are closes)

  joined_models : (later closed new : Content E) (first second : List E) → Models reads all_kept closed (with_closers reads first second)
      → Models reads all_kept later (paired reads (bracket_in_piece reads) None second) → new.unmatched ≡ closed.unmatched ++ later.unmatched
      → new.closed ≡ closed.closed ++ later.closed → new.answered ≡ sum_64 closed.answered later.answered
      → new.replied ≡ sum_64 closed.replied later.replied → new.strays ≡ closed.strays
      → Models reads all_kept new (paired reads (bracket_in_piece reads) None (first ++ second))
  joined_models later closed new first second front back unmatched_are closed_are answered_are replied_are strays_are =
      let a = openers side (with_closers reads first second) in
      let b = openers side (paired reads (bracket_in_piece reads) None second) in
      record {
        calls = holds_same reads all_kept new (a ++ b) (openers side (paired reads (bracket_in_piece reads) None (first ++ second)))
            (sym (joined_openers reads first second))
            (subst (HoldsCalls reads all_kept new) (sym (map-append (found reads) a b))
            (holds_both reads all_kept closed later new (map (found reads) a) (map (found reads) b) front.calls back.calls
            unmatched_are closed_are answered_are replied_are));
        strays_are = strays_are ∙ front.strays_are ∙ ap (map event_of) (sym (joined_strays reads first second));
      }

  pub joined : (mine later closed new : Content E) (first second : List E) → IsPlaced reads.place (first ++ second)
      → Holds reads all_kept mine (first ++ option_to_list (undecided_of reads second)) → Holds reads all_kept later second → ClosesAll reads all_kept mine later.strays closed
      → new ≡ appended later closed
      → Holds reads all_kept new (first ++ second)
  joined mine later closed new first second placed front back closes is =
      let kept = closes_all_keeps mine closed later.strays closes in
      record {
        placed = placed;
        last = ap (λ (c : Content E). c.last) is
            ∙ ap (λ o. option_or o closed.last) back.last
            ∙ ap (option_or (last_mark reads second)) (kept.0 ∙ front.last)
            ∙ joined_last reads (last_mark reads second) first second refl;
        undecided = ap (λ (c : Content E). c.undecided) is ∙ kept.1 ∙ front.undecided ∙ joined_undecided reads (last_mark reads first) first second refl;
        models = joined_models later closed new first second (closed_models mine later closed first second front back closes) back.models
            (ap (λ (c : Content E). c.unmatched) is) (ap (λ (c : Content E). c.closed) is) (ap (λ (c : Content E). c.answered) is)
            (ap (λ (c : Content E). c.replied) is) (ap (λ (c : Content E). c.strays) is);
        refused = ap (λ (c : Content E). c.refused) is
            ∙ ap (λ l. l ++ later.refused) (kept.2 ∙ front.refused ∙ refused-append reads (bracket_in_piece reads) None first (option_to_list (undecided_of reads second)))
            ∙ ap (λ l. refused_of (bracketed_piece reads first) ++ undecided_refused reads (last_mark reads first) (undecided_of reads second) ++ l) back.refused
            ∙ append_assoc (refused_of (bracketed_piece reads first)) (undecided_refused reads (last_mark reads first) (undecided_of reads second)) (refused_of (bracketed_piece reads second))
            ∙ ap (λ l. refused_of (bracketed_piece reads first) ++ l) (sym (after_mark reads (last_mark reads first) second).refused_are)
            ∙ sym (refused-append reads (bracket_in_piece reads) None first second);
      }

  -- ---- the end

  -- the calls of a whole thread are those of it as a piece
  whole_openers : (events : List E) → all_found reads (paired reads (bracket_in_piece reads) None events) ≡ openers_of reads events
  whole_openers events =
      ap (map (found reads)) (sym (decided reads None events).openers_are) ∙ sym (openers-found reads (bracketed_of reads events))

  pub left_open : (calls : Calls E) (events : List E) → Holds reads all_kept (content_of calls) events
      → map open_call calls.unmatched.items ≡ with_verdict is_open (openers_of reads events)
  left_open calls events held = held.models.calls.unmatched_are ∙ ap (with_verdict is_open) (whole_openers events)

  pub finished : (calls : Calls E) (findings : CallFindings E) (events : List E) → Holds reads all_kept (content_of calls) events
      → IsPermutation (calls.closed.items ++ map open_call calls.unmatched.items) findings.openers.items
      → IsNonDecreasingBy (opener_place reads) findings.openers.items
      → findings.answered ≡ calls.answered → findings.replied ≡ calls.replied
      → findings.strays.items ≡ option_to_list calls.undecided ++ calls.strays.items
      → findings.refused.items ≡ calls.refused.items → AreFindings reads all_kept events findings
  finished calls findings events held moved sorted answered replied strays_same refused_same =
      let rises = rises_from_pairs reads.place events held.placed.1 in
      let settled = decided reads None events in
      let part = paired reads (bracket_in_piece reads) None events in
      let openers_are = whole_openers events in
      let listed = openers_listed reads (bracket_read reads) None events rises in
      let rising = rises_from_pairs (opener_place reads) (openers_found reads (bracketed_of reads events)) listed.rising in
      let strays_are : findings.strays.items ≡ strays_in (bracketed_of reads events)
      = strays_same
      ∙ ap (λ o. option_to_list o ++ calls.strays.items) held.undecided
      ∙ ap (λ l. option_to_list (undecided_of reads events) ++ l) held.models.strays_are
      ∙ sym (whole_strays reads (undecided_of reads events) (strays side part) (strays_closers side part) (is_error_of reads events))
      ∙ ap (map event_of) (sym settled.strays_are)
      ∙ sym (strays-found (bracketed_of reads events))
      in
      record {
        kept = kept_in_place (opener_place reads) all_kept (all_found reads part) calls.closed.items (map open_call calls.unmatched.items) findings.openers.items
            (subst (Rises (opener_place reads)) (ap (map (found reads)) settled.openers_are) rising)
            held.models.calls.closed_are held.models.calls.unmatched_are moved sorted
            ∙ ap (kept_of all_kept) openers_are;
        answered = answered ∙ held.models.calls.answered_are ∙ exact_count reads events is_answered held.placed ∙ ap (how_many is_answered) openers_are;
        replied = replied ∙ held.models.calls.replied_are ∙ exact_count reads events is_replied held.placed ∙ ap (how_many is_replied) openers_are;
        strays = strays_are;
        refused = refused_same ∙ held.refused
            ∙ ap (λ l. l ++ refused_of (bracketed_piece reads events)) (sym (whole_refused reads (undecided_of reads events) (is_error_of reads events)))
            ∙ sym settled.refused_are;
      }

  -- if the second piece has an undecided error reply, that is added to the first
  abbrev pub AddsUndecided : Calls E → Calls E → Calls E → Type 0
  AddsUndecided mine later joined =
      ((later.undecided ≡ None) × (joined ≡ mine))
      ⊎ ((u : E) × (later.undecided ≡ Some u) × Adds (CallsSum reads all_kept) (IsPlaced reads.place) mine u joined)

  pub front_holds : (mine later joined : Calls E) (first second : List E) → CallsSum reads all_kept mine first → CallsSum reads all_kept later second
      → IsPlaced reads.place (first ++ second) → AddsUndecided mine later joined → Holds reads all_kept (content_of joined) (first ++ option_to_list (undecided_of reads second))
  front_holds mine later joined first second front back placed (inl plain) =
      let none : undecided_of reads second ≡ None = sym back.undecided ∙ plain.0 in
      let as_it_was : Holds reads all_kept (content_of joined) first
      = subst (λ (v : Calls E). Holds reads all_kept (content_of v) first) (sym plain.1) (holds reads all_kept mine first front) in
      subst (λ (o : Option E). Holds reads all_kept (content_of joined) (first ++ option_to_list o)) (sym none)
      (subst (λ (l : List E). Holds reads all_kept (content_of joined) l) (sym (append-nil first)) as_it_was)
  front_holds mine later joined first second front back placed (inr added) =
      let u = added.0 in
      let one : undecided_of reads second ≡ Some u = sym back.undecided ∙ added.1 in
      subst (λ (o : Option E). Holds reads all_kept (content_of joined) (first ++ option_to_list o)) (sym one)
      (holds reads all_kept joined (first ++ u ∷ []) (added.2 first front (placed_undecided reads first second u placed one)))
