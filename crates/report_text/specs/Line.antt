-- What lines are made of (docs/REPORT.md).
use Rattle.std.specs.Prelude.{ℕ, zero, suc, ◌/◌, ◌%◌, List, [], ◌∷◌, ◌++◌, codes, false}
use Rattle.std.specs.Fmt.{digit_glyph, digits}

-- the last k hexadecimal digits of a number, lower case
abbrev pub hex_digits : ℕ → ℕ → List ℕ
hex_digits zero n = []
hex_digits (suc k) n = hex_digits k (n / 16) ++ digit_glyph false (n % 16) ∷ []

-- `0x` and eight hexadecimal digits
abbrev pub hex_word : ℕ → List ℕ
hex_word word = codes "0x" ++ hex_digits 8 word

-- `0x` and the hexadecimal digits of a number, lower case and without leading zeros; `0x0` for zero
abbrev pub hex_number : ℕ → List ℕ
hex_number n = codes "0x" ++ digits 16 false n

-- a line, ended by one line feed
abbrev pub ended : List ℕ → List ℕ
ended line = line ++ codes "\n"
