-- Lists in the rising order of a rank.
use Rattle.std.specs.Prelude.{◌↔◌, ℕ, ◌<◌, List, Contains, AllPairs}

-- the list has everything that `Is` holds of, and nothing else, in rising order of the ranks
pub record ListsInOrder {X : Type 0} (rank : X → ℕ) (Is : X → Type 0) (things : List X) : Type 0 where
  pub rising : AllPairs (λ earlier later. rank earlier < rank later) things
  pub exact : (x : X) → Contains things x ↔ Is x
