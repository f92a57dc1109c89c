-- The items of each key of a list of pairs, and a map that has a summary of them for each key.
use Rattle.std.specs.Prelude.{◌≡◌, ◌≢◌, Bool, List, [], ◌++◌, Option, Some, None, if◌then◌else◌}
use Rattle.std.proofs.Common.{subst}
use Rattle.std.proofs.lemmas.List.Elements.{filter_map-append}
use Rattle.std.specs.BTreeMap.{BTreeMap, get}
use Rattle.std.specs.List.{filter_map}
use Rattle.std.specs.Ordering.{eq_by_cmp}
use Rattle.std.specs.declared.cmp.Ordering.{Ordering}
use Rattle.summary_law.specs.Summary.{FitsInHalves}

-- the item of a pair, if the pair has this key
abbrev pub under : {K I : Type 0} → (K → K → Bool) → K → K × I → Option I
under eq key e = if eq key e.0 then Some e.1 else None

-- the items of the key, in order
abbrev pub items_of : {K I : Type 0} → (K → K → Bool) → K → List (K × I) → List I
items_of eq key items = filter_map (under eq key) items

-- what is found under a key: a summary of the key's items, or nothing if it has none
abbrev pub IsOwn : {S I : Type 0} → (S → List I → Type 0) → Option S → List I → Type 0
IsOwn Sums None items = items ≡ []
IsOwn Sums (Some part) items = (items ≢ []) × Sums part items

-- the map has a summary of the items of each key that has items, and of no other key
abbrev pub SumsByKey : {K S I : Type 0}
    → (K → K → Ordering) → (S → List I → Type 0) → BTreeMap K S → List (K × I) → Type 0
SumsByKey {K} cmp Sums entries items =
    (key : K) → IsOwn Sums (get cmp entries key) (items_of (eq_by_cmp cmp) key items)

-- the items of each key can be summarised
abbrev pub EachFits : {K I : Type 0} → (K → K → Bool) → (List I → Type 0) → List (K × I) → Type 0
EachFits {K} eq Fits items = (key : K) → Fits (items_of eq key items)

-- the items of a key in two joined lists: those of the first list, followed by those of the second
pub items_of-append : {K I : Type 0} (eq : K → K → Bool) (key : K) (first second : List (K × I))
    → items_of eq key (first ++ second) ≡ items_of eq key first ++ items_of eq key second
items_of-append eq key first second = filter_map-append (under eq key) first second

-- if `Fits` holds of both halves of each list that it holds of, so does `EachFits`
pub each_fits_halves : {K I : Type 0} (eq : K → K → Bool) (Fits : List I → Type 0)
    → FitsInHalves Fits → FitsInHalves {I = K × I} (EachFits eq Fits)
each_fits_halves {K} eq Fits parts first second fits =
    let both = λ (key : K). parts _ _ (subst Fits (items_of-append eq key first second) (fits key)) in
    (λ key. (both key).0, λ key. (both key).1)
