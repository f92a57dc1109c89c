-- What is kept of a list, and what is in a list that is filtered, joined or rising.
use Rattle.std.proofs.Common.{◌≡◌, ℕ, ◌+◌, inl, inr, Bool, true, false, cond, List, [], ◌∷◌, ◌++◌, Option, Some, refl, sym, ap, ◌∙◌, arith, subst}
use Rattle.std.specs.Prelude.{count_by, filter}
use Rattle.std.proofs.lemmas.List.Sums.{sum_by-cons}
use Rattle.std.specs.List.{filter_map}
use Rattle.summary_law.proofs.Members.{In, Rises, contained, in_list, in_middle}
use Rattle.summary_law.proofs.ReadingLaws.{read-at, read-plain}
use Rattle.std.proofs.lemmas.List.Elements.{Contains-append_left, Contains-append_right}

pub in_kept : {X : Type 0} (test : X → Bool) (xs : List X) (x : X) → In x (filter test xs) → In x xs × (test x ≡ true)
in_kept test [] x here = absurd here
in_kept {X} test (y ∷ ys) x here =
    elim (test y) as (λ b. (test y ≡ b) → In x (cond b (y ∷ filter test ys) (filter test ys)) → In x (y ∷ ys) × (test x ≡ true)) [
      | true ↦ λ passes here. elim here [
        | inl is ↦ (inl is, ap test is ∙ passes)
        | inr there ↦ let found = in_kept test ys x there in (inr found.0, found.1)
      ]
      | false ↦ λ fails here. let found = in_kept test ys x here in (inr found.0, found.1)
    ] refl here

pub kept_in : {X : Type 0} (test : X → Bool) (xs : List X) (x : X) → In x xs → test x ≡ true → In x (filter test xs)
kept_in test [] x here passes = absurd here
kept_in test (y ∷ ys) x (inl is) passes = rw (ap test (sym is) ∙ passes) (inl is)
kept_in test (y ∷ ys) x (inr there) passes =
    let rest = kept_in test ys x there passes in
    elim (test y) as (λ b. In x (cond b (y ∷ filter test ys) (filter test ys))) [ true ↦ inr rest | false ↦ rest ]

-- if all that pass one test pass another, then among those that pass the other as many pass the one
pub kept_count : {X : Type 0} (test other : X → Bool) (xs : List X) → ((x : X) → In x xs → test x ≡ true → other x ≡ true)
    → count_by test (filter other xs) ≡ count_by test xs
kept_count test other [] passes = refl
kept_count {X} test other (x ∷ xs) passes =
    let one : X → ℕ = λ x. cond (test x) 1 0 in
    let rest = kept_count test other xs (λ y there. passes y (inr there)) in
    let whole = sum_by-cons one x xs in
    elim (other x) as (λ b. (other x ≡ b) → count_by test (cond b (x ∷ filter other xs) (filter other xs)) ≡ count_by test (x ∷ xs)) [
      | true ↦ λ is. sum_by-cons one x (filter other xs) ∙ ap (λ (n : ℕ). one x + n) rest ∙ sym whole
      | false ↦ λ fails.
          elim (test x) as (λ b. (test x ≡ b) → count_by test (filter other xs) ≡ count_by test (x ∷ xs)) [
            | true ↦ λ is. let no : true ≡ false = sym (passes x (inl refl) is) ∙ fails in absurd cc
            | false ↦ λ is. let none : one x ≡ 0 = ap (λ (b : Bool). cond b 1 0) is in omega (arith, rest, whole, none)
          ] refl
    ] refl

pub in_front : {X : Type 0} (x : X) (xs ys : List X) → In x xs → In x (xs ++ ys)
in_front x xs ys here = in_list (xs ++ ys) x (Contains-append_left xs ys x (contained xs x here))

pub in_back : {X : Type 0} (x : X) (xs ys : List X) → In x ys → In x (xs ++ ys)
in_back x xs ys here = in_list (xs ++ ys) x (Contains-append_right xs ys x (contained ys x here))

-- what is read of a list is read of one of its elements
pub read_from : {X Y : Type 0} (read : X → Option Y) (xs : List X) (y : Y) → In y (filter_map read xs) → (x : X) × In x xs × (read x ≡ Some y)
read_from read xs y here =
    let at = read-at (λ b x l. read x) [] xs y (subst (In y) (read-plain read [] xs) here) in
    (at.1, subst (In at.1) (sym at.3) (in_middle at.0 at.1 at.2), at.4)

-- two elements of a rising list at the same place are the same
pub one_there : {X : Type 0} (rank : X → ℕ) (xs : List X) → Rises rank xs → (x y : X) → In x xs → In y xs → rank x ≡ rank y → x ≡ y
one_there rank [] rises x y here there same = absurd here
one_there rank (z ∷ zs) rises x y (inl first) (inl second) same = first ∙ sym second
one_there rank (z ∷ zs) rises x y (inl first) (inr there) same =
    let above = rises.0 y there in
    let at : rank x ≡ rank z = ap rank first in
    absurd (omega (arith, above, at, same))
one_there rank (z ∷ zs) rises x y (inr here) (inl second) same =
    let above = rises.0 x here in
    let at : rank y ≡ rank z = ap rank second in
    absurd (omega (arith, above, at, same))
one_there rank (z ∷ zs) rises x y (inr here) (inr there) same = one_there rank zs rises.1 x y here there same
