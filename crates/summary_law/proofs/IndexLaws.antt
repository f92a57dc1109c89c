-- The index of a key among the keys of a map, and the map after a write there.
use Rattle.std.proofs.Common.{◌≡◌, ℕ, ◌<◌, Bool, true, cond, length, position, slice_get, get_or, Some, arith, sym, ap, ◌∙◌, subst}
use Rattle.std.proofs.lemmas.List.{get_or-map, length-map}
use Rattle.std.proofs.lemmas.List.Quantifiers.{position-Some}
use Rattle.std.proofs.lemmas.Option.{slice_get-get_or}
use Rattle.std.specs.Cmp.{IsEquivalence}
use Rattle.std.specs.Map.{keys_of}
use Rattle.indexmap.specs.IndexMap.{IndexMap, index_of, get, with_value_at, IsUnique}
use Rattle.indexmap.proofs.CallerLemmas.{updates-with_value_at}
use Rattle.indexmap.proofs.MapLemmas.{index-first}
use Rattle.indexmap.proofs.RemoveLemmas.{own_first}

module _ {K X S : Type 0} {eq : K → K → Bool} (laws : IsEquivalence eq) (map : IndexMap K X S) (unique : IsUnique eq map) (key : K) (i : ℕ) where
  -- the entry with an equal key is the one that a look-up finds
  pub index_here : (stored : K) (part : X) → slice_get map.entries i ≡ Some (stored, part) → eq key stored ≡ true → index_of eq map key ≡ Some i
  index_here stored part at same =
      (λ j. position (λ q. laws.congr key stored q same j) (keys_of map.entries))
      ∙ index-first (eq stored) map.entries i (own_first eq laws map.entries i stored part unique at)

  -- a write at the index of a key is seen under that key alone
  pub written_at : (part new : X) → index_of eq map key ≡ Some i → (q : K) → get eq (with_value_at map i new) q ≡ cond (eq key q) (Some new) (get eq map q)
  written_at part new index q =
      let entry = get_or map.entries i (key, part) in
      let found = position-Some (eq key) (keys_of map.entries) i key index in
      let within : i < length map.entries = omega (arith, found.0, length-map map.entries (λ e. e.0)) in
      let same : eq key entry.0 ≡ true = subst (λ k. eq key k ≡ true) (get_or-map (λ e. e.0) map.entries i (key, part) key within) found.1 in
      let writes = updates-with_value_at map i new laws unique entry.0 entry.1 (slice_get-get_or map.entries i (key, part) within) in
      writes.0 q ∙ ap (λ b. cond b (Some new) (get eq map q)) (sym (laws.congr key entry.0 q same))
