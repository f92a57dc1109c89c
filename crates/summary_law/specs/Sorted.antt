-- The different elements of a list in rising order.
use Rattle.std.specs.Prelude.{List, [], ◌∷◌}
use Rattle.std.specs.Ordering.{match_ordering}
use Rattle.std.specs.declared.cmp.Ordering.{Ordering}

-- one more element in its place in a rising list, unless an equal one is there
abbrev pub put : {X : Type 0} → (X → X → Ordering) → X → List X → List X
put cmp x [] = x ∷ []
put cmp x (y ∷ ys) = match_ordering (cmp x y) (x ∷ y ∷ ys) (y ∷ ys) (y ∷ put cmp x ys)

-- the elements of the list, each once and in rising order
abbrev pub sorted : {X : Type 0} → (X → X → Ordering) → List X → List X
sorted cmp [] = []
sorted cmp (x ∷ xs) = put cmp x (sorted cmp xs)
