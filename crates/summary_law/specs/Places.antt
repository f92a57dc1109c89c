-- A map of parts by key, as a list of the keys with their parts and an index that has the place of each key in the list.
use Rattle.std.specs.Prelude.{◌≡◌, ℕ, ◌<◌, true, cond, List, length, ◌++◌, Option, Some, slice_get, IfSome}
use Rattle.std.specs.BTreeMap.{BTreeMap, IsOrdered, get}
use Rattle.std.specs.List.{AllByRecursion, filter_map}
use Rattle.std.specs.Map.{keys_of, values_of}
use Rattle.std.specs.Option.{option_map}
use Rattle.std.specs.Ordering.{eq_by_cmp}
use Rattle.std.specs.declared.cmp.Ordering.{Ordering}
use Rattle.std_collections.specs.Layout.BTreeMap.{btree_map, layout_of}
use Rattle.summary_law.specs.ByKey.{IsOwn}
use Rattle.summary_law.specs.Summary.{CanJoin}

-- the key of an entry of the index, with the part at its place
abbrev pub part_at : {K S : Type 0} → List (K × S) → K × ℕ → Option (K × S)
part_at parts e = option_map (λ part. (e.0, part)) (slice_get (values_of parts) e.1)

-- the keys of these entries of the index, with their parts
abbrev pub parts_at : {K S : Type 0} → List (K × S) → List (K × ℕ) → List (K × S)
parts_at parts places = filter_map (part_at parts) places

-- each place is one of the list
abbrev pub ArePlaces : {K S : Type 0} → List (K × S) → List (K × ℕ) → Type 0
ArePlaces parts places = AllByRecursion (λ e. e.1 < length parts) places

-- the map
abbrev pub part_map : {K S : Type 0} → BTreeMap K ℕ → List (K × S) → BTreeMap K S
part_map index parts = btree_map (parts_at parts index.entries) (layout_of index)

-- the index has the place of each key of the list, and of no other key
pub record IsIndex {K S : Type 0} (cmp : K → K → Ordering) (index : BTreeMap K ℕ) (parts : List (K × S)) : Type 0 where
  pub ordered : IsOrdered cmp index
  pub there : (place : ℕ) (key : K) → slice_get (keys_of parts) place ≡ Some key → get cmp index key ≡ Some place
  pub found : (key : K) (place : ℕ) → get cmp index key ≡ Some place
      → (other : K) × (slice_get (keys_of parts) place ≡ Some other) × (eq_by_cmp cmp key other ≡ true)

-- the new map has this part under the key, and what the old one has under each other key
abbrev pub IsPut : {K S : Type 0} → (K → K → Ordering) → BTreeMap K S → K → S → BTreeMap K S → Type 0
IsPut {K} cmp old key part new = (other : K) → get cmp new other ≡ cond (eq_by_cmp cmp key other) (Some part) (get cmp old other)

-- if the key has a part, that can be joined with the later one
abbrev pub CanMerge : {K S I : Type 0} → (K → K → Ordering) → (S → List I → Type 0) → (List I → Type 0) → BTreeMap K S → K → S → Type 0
CanMerge cmp Sums Fits old key part = IfSome (get cmp old key) (λ mine. CanJoin Sums Fits mine part)

-- the new map has a part under the key that sums what the old part summed, followed by what the later one sums
pub record Merges {K S I : Type 0} (cmp : K → K → Ordering) (Sums : S → List I → Type 0) (Fits : List I → Type 0)
    (old : BTreeMap K S) (key : K) (part : S) (new : BTreeMap K S) : Type 0 where
  pub merged : S
  pub put : IsPut cmp old key merged new
  pub sums : (front back : List I) → IsOwn Sums (get cmp old key) front → IsOwn Sums (Some part) back → Fits (front ++ back)
      → IsOwn Sums (Some merged) (front ++ back)
