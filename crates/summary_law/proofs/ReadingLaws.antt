-- Readings that see what comes before an element and after it: of what is picked from things, with something made of
-- what is read, in rising places, and two readings at once.
use Rattle.std.proofs.Common.{◌≡◌, ℕ, ◌<◌, ◌⊎◌, inl, inr, Bool, List, [], ◌∷◌, ◌++◌, map, Option, Some, None, refl, sym, ap, ap₂, subst, ◌∙◌, append_assoc}
use Rattle.std.specs.Prelude.{option_and_then}
use Rattle.std.specs.List.{cons_option, filter_map}
use Rattle.std.specs.List.Sorted.{IsPermutation}
use Rattle.std.specs.Option.{option_map, option_or}
use Rattle.std.proofs.lemmas.List.{append-nil}
use Rattle.std.proofs.lemmas.List.Elements.{filter_map-append}
use Rattle.std.proofs.lemmas.List.Sorted.{IsPermutation-cons, IsPermutation-middle, IsPermutation-refl, IsPermutation-trans}
use Rattle.std.proofs.lemmas.Option.{cond_some}
use Rattle.summary_law.specs.Fits.{PlacesRise}
use Rattle.summary_law.specs.Readings.{read_each, read_all, chosen}
use Rattle.summary_law.proofs.Members.{In, Rises, in_middle, rises_from_pairs}

module _ {X Y : Type 0} (read : List X → X → List X → Option Y) where
  -- what is made of what is read, as one reading
  pub read-made : {Z : Type 0} (make : Y → Z) (before xs : List X)
      → map make (read_each read before xs) ≡ read_each (λ b x l. option_map make (read b x l)) before xs
  read-made make before [] = refl
  read-made {Z} make before (x ∷ later) =
      let next = before ++ x ∷ [] in
      let rest = read-made make next later in
      elim (read before x later) as (λ o. map make (cons_option o (read_each read next later))
      ≡ cons_option (option_map make o) (read_each (λ b x l. option_map make (read b x l)) next later)) [
        | None ↦ rest
        | Some y ↦ ap (λ (t : List Z). make y ∷ t) rest
      ]

  -- what is read of the items that are picked from things, as a reading of the things
  pub read-picked : {E : Type 0} (pick : E → Option X) (before things : List E)
      → read_each read (filter_map pick before) (filter_map pick things)
      ≡ read_each (λ b e l. option_and_then (λ x. read (filter_map pick b) x (filter_map pick l)) (pick e)) before things
  read-picked pick before [] = refl
  read-picked {E} pick before (e ∷ later) =
      let next = before ++ e ∷ [] in
      let other : List E → E → List E → Option Y = λ b e l. option_and_then (λ x. read (filter_map pick b) x (filter_map pick l)) (pick e) in
      let rest : read_each read (filter_map pick next) (filter_map pick later) ≡ read_each other next later = read-picked pick next later in
      let more : filter_map pick next ≡ filter_map pick before ++ cons_option (pick e) [] = filter_map-append pick before (e ∷ []) in
      elim (pick e) as (λ o. (filter_map pick next ≡ filter_map pick before ++ cons_option o [])
      → read_each read (filter_map pick before) (cons_option o (filter_map pick later))
      ≡ cons_option (option_and_then (λ x. read (filter_map pick before) x (filter_map pick later)) o) (read_each other next later)) [
        | None ↦ λ more.
            ap (λ (b : List X). read_each read b (filter_map pick later)) (sym (append-nil (filter_map pick before)) ∙ sym more) ∙ rest
        | Some x ↦ λ more.
            ap (cons_option (read (filter_map pick before) x (filter_map pick later)))
            (ap (λ (b : List X). read_each read b (filter_map pick later)) (sym more) ∙ rest)
      ] more

  -- a place in the list where this is read: the element, with what comes before it and what comes after it
  abbrev pub ReadAt : List X → List X → Y → Type 0
  ReadAt before xs y = (b : List X) × (x : X) × (l : List X) × (xs ≡ b ++ x ∷ l) × (read (before ++ b) x l ≡ Some y)

  pub read-at : (before xs : List X) (y : Y) → In y (read_each read before xs) → ReadAt before xs y
  read-at before [] y here = absurd here
  read-at before (x ∷ later) y here =
      let next = before ++ x ∷ [] in
      let after : In y (read_each read next later) → ReadAt before (x ∷ later) y = λ there.
      let found = read-at next later y there in (
        x ∷ found.0,
        found.1,
        found.2,
        ap (λ (t : List X). x ∷ t) found.3,
        ap (λ (b : List X). read b found.1 found.2) (sym (append_assoc before (x ∷ []) found.0)) ∙ found.4,
      ) in
      elim (read before x later) as (λ o. (read before x later ≡ o) → In y (cons_option o (read_each read next later)) → ReadAt before (x ∷ later) y) [
        | None ↦ λ is here. after here
        | Some z ↦ λ is here. elim here [
          | inl same ↦ ([], x, later, refl, ap (λ (b : List X). read b x later) (append-nil before) ∙ is ∙ ap Some (sym same))
          | inr there ↦ after there
        ]
      ] refl here

  pub at-read : (before b : List X) (x : X) (l : List X) (y : Y) → read (before ++ b) x l ≡ Some y → In y (read_each read before (b ++ x ∷ l))
  at-read before [] x l y is =
      let here : read before x l ≡ Some y = ap (λ (b : List X). read b x l) (sym (append-nil before)) ∙ is in
      rw here (inl refl)
  at-read before (z ∷ b) x l y is =
      let next = before ++ z ∷ [] in
      let rest = at-read next b x l y (ap (λ (t : List X). read t x l) (append_assoc before (z ∷ []) b) ∙ is) in
      elim (read before z (b ++ x ∷ l)) as (λ o. In y (cons_option o (read_each read next (b ++ x ∷ l)))) [ None ↦ rest | Some w ↦ inr rest ]

  -- if what is read has the place of its element, its places rise as the elements' places do
  module _ (place : X → ℕ) (rank : Y → ℕ) (keeps : (b : List X) (x : X) (l : List X) (y : Y) → read b x l ≡ Some y → rank y ≡ place x) where
    rises-read : (before xs : List X) → Rises place xs → Rises rank (read_each read before xs)
    rises-read before [] rises = tt
    rises-read before (x ∷ later) rises =
        let next = before ++ x ∷ [] in
        let rest = rises-read next later rises.1 in
        elim (read before x later) as (λ o. (read before x later ≡ o) → Rises rank (cons_option o (read_each read next later))) [
          | None ↦ λ is. rest
          | Some y ↦ λ is. (
            λ z there.
                let found = read-at next later z there in
                let among : In found.1 later = subst (In found.1) (sym found.3) (in_middle found.0 found.1 found.2) in
                subst (λ (n : ℕ). n < rank z) (sym (keeps before x later y is))
                (subst (λ (n : ℕ). place x < n) (sym (keeps (next ++ found.0) found.1 found.2 z found.4)) (rises.0 found.1 among)),
            rest,
          )
        ] refl

    pub read-rises : (xs : List X) → PlacesRise place xs → Rises rank (read_all read xs)
    read-rises xs rise = rises-read [] xs (rises_from_pairs place xs rise)

-- what is chosen is the element itself
pub chosen-is : {X : Type 0} (test : List X → X → List X → Bool) (b : List X) (x : X) (l : List X) (y : X) → chosen test b x l ≡ Some y → y ≡ x
chosen-is test b x l y is = sym (cond_some (test b x l) x y is).1

-- a reading that looks at each element by itself
pub read-plain : {X Y : Type 0} (read : X → Option Y) (before xs : List X) → filter_map read xs ≡ read_each (λ b x l. read x) before xs
read-plain read before [] = refl
read-plain read before (x ∷ later) = ap (cons_option (read x)) (read-plain read (before ++ x ∷ []) later)

-- a reading that does not see what comes before reads the same whatever that is
pub read-blind : {X Y : Type 0} (read : List X → X → List X → Option Y) → ((b c : List X) (x : X) (l : List X) → read b x l ≡ read c x l)
    → (before other xs : List X) → read_each read before xs ≡ read_each read other xs
read-blind read blind before other [] = refl
read-blind read blind before other (x ∷ later) =
    ap₂ cons_option (blind before other x later) (read-blind read blind (before ++ x ∷ []) (other ++ x ∷ []) later)

-- if at most one of two readings gives something of each element, what both give is what the one or the other gives,
-- except for the order
pub read-both : {X Y : Type 0} (read other : List X → X → List X → Option Y)
    → ((b : List X) (x : X) (l : List X) → (read b x l ≡ None) ⊎ (other b x l ≡ None)) → (before xs : List X)
    → IsPermutation (read_each read before xs ++ read_each other before xs) (read_each (λ b x l. option_or (read b x l) (other b x l)) before xs)
read-both read other apart before [] = IsPermutation-refl []
read-both {X} {Y} read other apart before (x ∷ later) =
    let next = before ++ x ∷ [] in
    let first = read_each read next later in
    let second = read_each other next later in
    let whole = read_each (λ b x l. option_or (read b x l) (other b x l)) next later in
    let rest : IsPermutation (first ++ second) whole = read-both read other apart next later in
    elim (read before x later) as (λ o. (o ≡ None) ⊎ (other before x later ≡ None)
    → IsPermutation (cons_option o first ++ cons_option (other before x later) second) (cons_option (option_or o (other before x later)) whole)) [
      | None ↦ λ none.
          elim (other before x later) as (λ p. IsPermutation (first ++ cons_option p second) (cons_option p whole)) [
            | None ↦ rest
            | Some y ↦
                IsPermutation-trans (first ++ y ∷ second) (y ∷ (first ++ second)) (y ∷ whole) (IsPermutation-middle first y second)
                (IsPermutation-cons y (first ++ second) whole rest)
          ]
      | Some y ↦ λ none. elim none [
        | inl gone ↦ let none : ⊥ = cc in absurd none
        | inr is ↦ rw is (IsPermutation-cons y (first ++ second) whole rest)
      ]
    ] (apart before x later)
