-- The keys of a list of pairs in the order in which they first come, and a map in that order that has a summary of the
-- items of each key.
use Rattle.std.specs.Prelude.{◌≡◌, Bool, List, [], ◌∷◌, filter, not}
use Rattle.std.specs.Map.{lookup, keys_of}
use Rattle.summary_law.specs.ByKey.{items_of, IsOwn}

-- the keys, each once, in the order in which they first come
abbrev pub firsts : {K : Type 0} → (K → K → Bool) → List K → List K
firsts eq [] = []
firsts eq (key ∷ keys) = key ∷ filter (λ other. not (eq other key)) (firsts eq keys)

-- the entries have a summary of the items of each key that has items, and of no other key; the keys are in the order of
-- their first items
pub record SumsInOrder {K S I : Type 0} (eq : K → K → Bool) (Sums : S → List I → Type 0) (entries : List (K × S))
    (items : List (K × I)) : Type 0 where
  pub order : keys_of entries ≡ firsts eq (keys_of items)
  pub parts : (key : K) → IsOwn Sums (lookup (eq key) entries) (items_of eq key items)
