-- What a test keeps of a list, and how much.
use Rattle.std.proofs.Common.{◌≡◌, ℕ, ◌+◌, Bool, true, false, cond, ◌&&◌, List, [], ◌∷◌, filter, map, refl, sym, ap, ◌∙◌, ⊎_elim}
use Rattle.std.specs.Prelude.{count_by}
use Rattle.std.proofs.lemmas.Bool.{cases_Bool}
use Rattle.std.proofs.lemmas.List.Sums.{sum_by-cons}
use Rattle.std.proofs.Math.Bool.{and_comm}

-- what passes one test and then another passes both at once
pub filter_twice : {X : Type 0} (p q r : X → Bool) → ((x : X) → r x ≡ (q x && p x)) → (xs : List X) → filter p (filter q xs) ≡ filter r xs
filter_twice p q r both [] = refl
filter_twice p q r both (x ∷ xs) =
    ⊎_elim
    (λ (e : q x ≡ true). rw (both x, e) (ap (λ t. cond (p x) (x ∷ t) t) (filter_twice p q r both xs)))
    (λ (e : q x ≡ false). rw (both x, e) (filter_twice p q r both xs))
    (cases_Bool (q x))

-- the order of two tests does not matter
pub filter_swap : {X : Type 0} (p q : X → Bool) (xs : List X) → filter p (filter q xs) ≡ filter q (filter p xs)
filter_swap p q xs =
    filter_twice p q (λ x. q x && p x) (λ x. refl) xs ∙ sym (filter_twice q p (λ x. q x && p x) (λ x. and_comm (q x) (p x)) xs)

-- to keep some of what is made of a list is to keep the elements that it is made of
pub filter-map : {X Y : Type 0} (f : X → Y) (test : Y → Bool) (xs : List X) → filter test (map f xs) ≡ map f (filter (λ x. test (f x)) xs)
filter-map f test [] = refl
filter-map {X} {Y} f test (x ∷ xs) =
    let rest = filter-map f test xs in
    elim (test (f x)) as (λ b. cond b (f x ∷ filter test (map f xs)) (filter test (map f xs))
    ≡ map f (cond b (x ∷ filter (λ x. test (f x)) xs) (filter (λ x. test (f x)) xs))) [
      | true ↦ ap (λ (t : List Y). f x ∷ t) rest
      | false ↦ rest
    ]

-- to count what is made of a list is to count the list by what is made
pub count_by-map : {X Y : Type 0} (f : X → Y) (test : Y → Bool) (xs : List X) → count_by test (map f xs) ≡ count_by (λ x. test (f x)) xs
count_by-map f test [] = refl
count_by-map {X} {Y} f test (x ∷ xs) =
    sum_by-cons (λ (y : Y). cond (test y) 1 0) (f x) (map f xs) ∙ ap (λ (n : ℕ). cond (test (f x)) 1 0 + n) (count_by-map f test xs)
    ∙ sym (sum_by-cons (λ (x : X). cond (test (f x)) 1 0) x xs)
