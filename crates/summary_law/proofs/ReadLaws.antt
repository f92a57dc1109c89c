-- The items that are read from the things of a list: they are no more than the things, and in their order.
use Rattle.std.proofs.Common.{◌≡◌, ℕ, suc, ◌<◌, ◌≤◌, Bool, true, false, cond, List, [], ◌∷◌, length, Option, Some, None, refl, sym, ap, subst, arith}
use Rattle.std.proofs.lemmas.List.Elements.{All-cons, All-head, All-nil, All-tail, All-weaker}
use Rattle.std.proofs.lemmas.List.Kept.{AllPairs-cons}
use Rattle.std.specs.List.{cons_option, filter_map}
use Rattle.std.specs.Prelude.{All}
use Rattle.summary_law.specs.ByKey.{EachFits, items_of, under}
use Rattle.summary_law.specs.Fits.{IsShort, PlacesRise}

module _ {E I : Type 0} (read : E → Option I) where
  -- there are no more items than things
  pub length-read : (es : List E) → length (filter_map read es) ≤ length es
  length-read [] = omega arith
  length-read (e ∷ es) =
      let shorter = length-read es in
      elim (read e) as (λ o. length (cons_option o (filter_map read es)) ≤ length (e ∷ es)) [ None ↦ omega arith | Some i ↦ omega arith ]

  -- what holds of the item of each thing holds of each item
  pub all_read : (P : I → Type 0) (es : List E) → All (λ e. (i : I) → read e ≡ Some i → P i) es → All P (filter_map read es)
  all_read P [] all = All-nil P
  all_read P (e ∷ es) all =
      let rest = all_read P es (All-tail (λ e. (i : I) → read e ≡ Some i → P i) e es all) in
      let here = All-head (λ e. (i : I) → read e ≡ Some i → P i) e es all in
      elim (read e) as (λ o. ((i : I) → o ≡ Some i → P i) → All P (cons_option o (filter_map read es))) [
        | None ↦ λ h. rest
        | Some i ↦ λ h. All-cons P i (filter_map read es) (h i refl) rest
      ] here

  -- if items have the places of the things that they are read from, their places rise as the things' places do
  pub rising_read : (place : I → ℕ) (place_of : E → ℕ) → ((e : E) (i : I) → read e ≡ Some i → place i ≡ place_of e) → (es : List E)
      → PlacesRise place_of es → PlacesRise place (filter_map read es)
  rising_read place place_of same [] rise = λ i j d below within. absurd (omega arith)
  rising_read place place_of same (e ∷ es) rise =
      let rest : PlacesRise place (filter_map read es)
      = rising_read place place_of same es (λ i j d below within. rise (suc i) (suc j) d (omega arith) (omega arith)) in
      let above : All (λ x. place_of e < place_of x) es = λ j d within. rise 0 (suc j) d (omega arith) (omega arith) in
      let later : All (λ i. place_of e < place i) (filter_map read es)
      = all_read (λ i. place_of e < place i) es (All-weaker (λ x. place_of e < place_of x) (λ x. (i : I) → read x ≡ Some i → place_of e < place i)
      (λ x h i is. subst (λ n. place_of e < n) (sym (same x i is)) h) es above) in
      elim (read e) as (λ o. ((i : I) → o ≡ Some i → place i ≡ place_of e) → PlacesRise place (cons_option o (filter_map read es))) [
        | None ↦ λ h. rest
        | Some i ↦ λ h.
            AllPairs-cons (λ a b. place a < place b) i (filter_map read es)
            (subst (λ n. All (λ b. n < place b) (filter_map read es)) (sym (h i refl)) later) rest
      ] (same e)

module _ {K I : Type 0} (eq : K → K → Bool) where
  -- if there are few items, each key has few
  pub each_short : (items : List (K × I)) → IsShort items → EachFits eq IsShort items
  each_short items short key =
      let shorter = length-read (under eq key) items in
      omega arith

-- places that rise, rise under each key
pub items_rise : {K I : Type 0} (eq : K → K → Bool) (key : K) (place : I → ℕ) (items : List (K × I)) → PlacesRise (λ (e : K × I). place e.1) items
    → PlacesRise place (items_of eq key items)
items_rise {K} {I} eq key place items rise =
    rising_read (under eq key) place (λ (e : K × I). place e.1)
    (λ e i. elim (eq key e.0) as (λ b. cond b (Some e.1) None ≡ Some i → place i ≡ place e.1) [
      | true ↦ λ is. let same : i ≡ e.1 = cc in ap place same
      | false ↦ λ is. let no : ⊥ = cc in absurd no
    ])
    items rise
