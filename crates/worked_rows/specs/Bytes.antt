-- Captures as hexadecimal digits, and captures that are made of others.
use Rattle.std.specs.Prelude.{ℕ, ◌+◌, ◌-◌, ◌*◌, ◌==◌, nat_lt, if◌then◌else◌, List, [], ◌∷◌, ◌++◌, length, take, drop, replicate, codes}
use Prim.Native.String.{String}

-- what a digit from `0` to `9` or from `a` to `f` says, by its character code
abbrev pub digit : ℕ → ℕ
digit code = if nat_lt code 58 then code - 48 else code - 87

-- the bytes that these digits say, two digits a byte; the code 32 is a space, which says nothing
abbrev pub bytes_of : List ℕ → List ℕ
bytes_of [] = []
bytes_of (first ∷ []) = []
bytes_of (first ∷ second ∷ others) =
    if first == 32 then bytes_of (second ∷ others)
    else (digit first * 16 + digit second) ∷ bytes_of others

-- the bytes that these digits say
abbrev pub hex : String → List ℕ
hex digits = bytes_of (codes digits)

-- so many bytes of zero
abbrev pub zeros : ℕ → List ℕ
zeros count = replicate count 0

-- the capture with other bytes from this place on
abbrev pub changed : ℕ → List ℕ → List ℕ → List ℕ
changed place other capture = take place capture ++ other ++ drop (place + length other) capture

-- the file header of version 1
abbrev pub header : List ℕ
header = hex "424e445243415031 08000000 00000000"

-- the file header of version 2
abbrev pub header_2 : List ℕ
header_2 = hex "424e445243415032 08000000 00000000"
