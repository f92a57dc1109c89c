-- The bytes that the name of an interface may have.
use Rattle.std.specs.Prelude.{ℕ, Bool, List, ◌||◌, ◌*◌, ◌≡◌, ◌⊎◌, nat_eq, take, drop, length}
use Rattle.std.specs.Char.{is_ascii_alphanumeric}
use Rattle.capture_frame.specs.Envelope.{number_at}

-- A letter, a digit, 0, `$`, `.`, `:`, `@` or `_`.
abbrev pub may_spell : ℕ → Bool
may_spell byte =
    is_ascii_alphanumeric byte || nat_eq byte 0 || nat_eq byte 36 || nat_eq byte 46 || nat_eq byte 58 || nat_eq byte 64 || nat_eq byte 95

-- The units of the String16 at the begin of the data, as many as the count in their first four bytes says.
abbrev pub string_of : List ℕ → List ℕ
string_of bytes = take (2 * number_at 4 0 bytes) (drop 4 bytes)

-- Where the name of an interface is in the data of a transaction: in a String16 after three, two or one number of four
-- bytes, or at once.
abbrev pub IsToken : List ℕ → List ℕ → Type 0
IsToken bytes name =
    (name ≡ string_of (drop 12 bytes)) ⊎ (name ≡ string_of (drop 8 bytes)) ⊎ (name ≡ string_of (drop 4 bytes)) ⊎ (name ≡ take (length name) bytes)
