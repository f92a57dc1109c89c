-- Which bytes the parts of a capture have that are opened by their names.
use Rattle.std.specs.Prelude.{◌≡◌, ℕ, List, Option, Some, None, IfSome}

-- of no name can a contract say which bytes its part has; so it is of the files of the system
abbrev pub unknown : List ℕ → Option (List ℕ)
unknown name = None

-- if it is known which bytes a part has, its reader has all of them left
abbrev pub HasLeft : Option (List ℕ) → Option (List ℕ) → Type 0
HasLeft known left = IfSome known (λ bytes. left ≡ Some bytes)
