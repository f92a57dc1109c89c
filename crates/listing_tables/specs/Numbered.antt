-- Things that are known by their index.
use Rattle.std.specs.Prelude.{◌≡◌, ℕ, List, Option, None, Some, slice_get}

-- a thing is at this index, which is known
abbrev pub IsAt : {X : Type 0} → List X → Option ℕ → X → Type 0
IsAt things index thing = (at : ℕ) × (index ≡ Some at) × (slice_get things at ≡ Some thing)

-- the thing at this index, if it is known of an index at all
abbrev pub thing_at : {X : Type 0} → List X → Option ℕ → Option X
thing_at things None = None
thing_at things (Some at) = slice_get things at
