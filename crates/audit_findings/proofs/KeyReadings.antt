-- What is read of a list by key is what is read of the elements of one key alone: the key of the element that it names.
use Rattle.std.proofs.Common.{◌≡◌, Bool, true, false, cond, List, [], ◌∷◌, ◌++◌, Option, Some, None, refl, sym, ap, ap₂, subst, ◌∙◌, filter, filter_map}
use Rattle.std.specs.Cmp.{IsEquivalence}
use Rattle.std.specs.List.{cons_option}
use Rattle.std.proofs.lemmas.List.Elements.{filter-append}
use Rattle.std.proofs.lemmas.Option.{cond_some}
use Rattle.pending_ledger.proofs.ListLaws.{read_split}
use Rattle.summary_law.proofs.Members.{In}
use Rattle.summary_law.proofs.ReadingLaws.{at-read, read-at}
use Rattle.summary_law.specs.Readings.{by_key, read_all, with_key}

-- the element itself, if it passes a test
abbrev kept_one : {X : Type 0} → (X → Bool) → X → Option X
kept_one test x = cond (test x) (Some x) None

filter_made : {X : Type 0} (test : X → Bool) (xs : List X) → filter test xs ≡ filter_map (kept_one test) xs
filter_made test [] = refl
filter_made {X} test (x ∷ xs) =
    let rest = filter_made test xs in
    elim (test x) as (λ b. cond b (x ∷ filter test xs) (filter test xs) ≡ cons_option (cond b (Some x) None) (filter_map (kept_one test) xs))
    [ true ↦ ap (λ (t : List X). x ∷ t) rest | false ↦ rest ]

module _ {K X Y : Type 0} {eq : K → K → Bool} (laws : IsEquivalence eq) (key : X → K) (read : List X → X → List X → Option Y) (of : Y → X)
    (names : (b : List X) (x : X) (l : List X) (y : Y) → read b x l ≡ Some y → of y ≡ x) (xs : List X) (y : Y) where
  -- the elements of the key of the element that y names
  abbrev own : List X → List X
  own = with_key eq key (key (of y))

  pub read_of_own : In y (read_all (by_key eq key read) xs) → In y (read_all read (own xs))
  read_of_own there =
      let at = read-at (by_key eq key read) [] xs y there in
      let x = at.1 in
      let before = at.0 in
      let later = at.2 in
      let named : of y ≡ x = names (with_key eq key (key x) before) x (with_key eq key (key x) later) y at.4 in
      let here : with_key eq key (key x) (before ++ x ∷ later) ≡ with_key eq key (key x) before ++ x ∷ with_key eq key (key x) later
      = filter-append (λ z. eq (key x) (key z)) before (x ∷ later)
      ∙ ap (λ (b : Bool). with_key eq key (key x) before ++ cond b (x ∷ with_key eq key (key x) later) (with_key eq key (key x) later)) (laws.refl (key x)) in
      let all : own xs ≡ with_key eq key (key x) before ++ x ∷ with_key eq key (key x) later
      = ap₂ (λ (z : X) (list : List X). with_key eq key (key z) list) named at.3 ∙ here in
      subst (λ (list : List X). In y (read_all read list)) (sym all)
      (at-read read [] (with_key eq key (key x) before) x (with_key eq key (key x) later) y at.4)

  pub own_read : In y (read_all read (own xs)) → In y (read_all (by_key eq key read) xs)
  own_read there =
      let at = read-at read [] (own xs) y there in
      let test : X → Bool = λ z. eq (key (of y)) (key z) in
      let split = read_split (kept_one test) xs at.0 at.1 at.2 (sym (filter_made test xs) ∙ at.3) in
      let same : split.here ≡ at.1 = (cond_some (test split.here) split.here at.1 split.gives).1 in
      let named : of y ≡ split.here = names at.0 at.1 at.2 y at.4 ∙ sym same in
      let before : own split.before ≡ at.0 = filter_made test split.before ∙ split.front_is in
      let later : own split.after ≡ at.2 = filter_made test split.after ∙ split.back_is in
      let reads : read (own split.before) split.here (own split.after) ≡ Some y
      = ap₂ (λ (b : List X) (l : List X). read b split.here l) before later ∙ ap (λ (x : X). read at.0 x at.2) same ∙ at.4 in
      let by : by_key eq key read split.before split.here split.after ≡ Some y
      = ap (λ (x : X). read (with_key eq key (key x) split.before) split.here (with_key eq key (key x) split.after)) (sym named) ∙ reads in
      subst (λ (list : List X). In y (read_all (by_key eq key read) list)) (sym split.split)
      (at-read (by_key eq key read) [] split.before split.here split.after y by)
