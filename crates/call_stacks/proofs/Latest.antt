-- Each event of a thread is bracketed by the latest mark before it.
use Rattle.std.proofs.Common.{◌≡◌, ℕ, zero, suc, List, [], ◌∷◌, ◌++◌, Option, Some, None, refl, sym, ap, subst, ◌∙◌, append_assoc, take}
use Rattle.std.specs.Option.{option_or}
use Rattle.std.specs.Prelude.{slice_get}
use Rattle.std.proofs.lemmas.List.{append-nil}
use Rattle.std.proofs.lemmas.List.Elements.{All-append, All-cons, All-nil}
use Rattle.call_stacks.specs.Calls.{Reads, Bracketed, bracket_read, bracketed_of, bracketed_with, mark_after, mark_read}
use Rattle.call_stacks.specs.Marks.{IsBracketedAt, IsLatestMark, LeaveNoMark}
use Rattle.event_core.specs.declared.marks.Mark.{Mark}

module _ {E : Type 0} (reads : Reads E) where
  abbrev LeavesNone : E → Type 0
  LeavesNone e = mark_read reads e ≡ None

  one_quiet : (e : E) → mark_read reads e ≡ None → LeaveNoMark reads (e ∷ [])
  one_quiet e none = All-cons LeavesNone e [] none (All-nil LeavesNone)

  -- the latest mark after one more event
  latest-more : (before : List E) (mark : Option Mark) → IsLatestMark reads before mark → (e : E) → IsLatestMark reads (before ++ e ∷ []) (mark_after reads mark e)
  latest-more before mark latest e = by_own (mark_read reads e) refl mark latest
    where
      by_own : (own : Option Mark) → mark_read reads e ≡ own → (mark : Option Mark) → IsLatestMark reads before mark
          → IsLatestMark reads (before ++ e ∷ []) (option_or own mark)
      by_own (Some own) is mark latest = (before, e, [], refl, is, All-nil LeavesNone)
      by_own None is None latest = All-append LeavesNone before (e ∷ []) latest (one_quiet e is)
      by_own None is (Some mark) latest = (
        latest.0,
        latest.1,
        latest.2 ++ e ∷ [],
        ap (λ (t : List E). t ++ e ∷ []) latest.3 ∙ append_assoc latest.0 (latest.1 ∷ latest.2) (e ∷ []),
        latest.4,
        All-append LeavesNone latest.2 (e ∷ []) latest.5 (one_quiet e is),
      )

  record IsAfter (before events : List E) (n : ℕ) (found : Bracketed E) : Type 0 where
    event : slice_get events n ≡ Some found.event
    latest : IsLatestMark reads (before ++ take n events) found.before
    bracket : found.bracket ≡ bracket_read reads found.before found.event

  bracketed-after : (before events : List E) (mark : Option Mark) → IsLatestMark reads before mark → (n : ℕ) (found : Bracketed E)
      → slice_get (bracketed_with reads (bracket_read reads) mark events) n ≡ Some found → IsAfter before events n found
  bracketed-after before [] mark latest n found is = let no : ⊥ = cc in absurd no
  bracketed-after before (e ∷ events) mark latest zero found is =
      let here : Bracketed E = record { event = e; before = mark; bracket = bracket_read reads mark e } in
      let same : here ≡ found = cc in
      subst (IsAfter before (e ∷ events) 0) same
      (record { event = refl; latest = subst (λ (t : List E). IsLatestMark reads t mark) (sym (append-nil before)) latest; bracket = refl })
  bracketed-after before (e ∷ events) mark latest (suc n) found is =
      let rest = bracketed-after (before ++ e ∷ []) events (mark_after reads mark e) (latest-more before mark latest e) n found is in
      record {
        event = rest.event;
        latest = subst (λ (t : List E). IsLatestMark reads t found.before) (append_assoc before (e ∷ []) (take n events)) rest.latest;
        bracket = rest.bracket;
      }

  pub bracketed-at : (events : List E) (n : ℕ) (found : Bracketed E) → slice_get (bracketed_of reads events) n ≡ Some found
      → IsBracketedAt reads events n found
  bracketed-at events n found is =
      let at = bracketed-after [] events None (All-nil LeavesNone) n found is in
      record { event = at.event; before = at.latest; bracket = at.bracket }
