-- The parts of a capture, one read from each of several readers.
use Rattle.std.specs.Prelude.{◌≡◌, ℕ, ◌≤◌, ◌<◌, List, length, map, Option, Some, IfSome}
use Rattle.std.specs.List.{AllZip, sum_by}

-- how many bytes these parts have together
abbrev pub bytes_of : List (List ℕ) → ℕ
bytes_of parts = sum_by length parts

-- the part is all that its reader had, if that is known
abbrev pub IsAllOf : Option (List ℕ) → List ℕ → Type 0
IsAllOf had part = IfSome had (λ bytes. part ≡ bytes)

-- a part was read from each reader, in order, and is all that the reader had, if that is known; together the parts are
-- within the limit
abbrev pub AreRead : ℕ → List (Option (List ℕ)) → List (List ℕ) → Type 0
AreRead limit had parts = AllZip IsAllOf had parts × (bytes_of parts ≤ limit)

-- if it is known what each reader had, that is more than the limit together
abbrev pub ArePastLimit : ℕ → List (Option (List ℕ)) → Type 0
ArePastLimit limit had = (known : List (List ℕ)) → had ≡ map Some known → limit < bytes_of known
