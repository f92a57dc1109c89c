-- The header's names are short, and ASCII.
use Rattle.std.proofs.Common.{◌≡◌, ℕ, ◌<◌, ◌≤◌, List, length, true, nat_lt, slice_index_or, IsAscii, refl, ltb-true, arith}
use Rattle.std.specs.List.{list_all}
use Rattle.std.proofs.lemmas.List.Sums.{AllPass-from_list_all}
use Rattle.std.proofs.lemmas.Str.Ascii.{IsAscii-from_all}
use Rattle.binder_code.specs.Commands.{command_lines, return_lines, name_of}
use Rattle.binder_code.specs.declared.record_kind.Kind.{Kind}
use Rattle.binder_code.specs.declared.record_kind.Kind.TheVariants.{Opaque}

-- a text whose bytes pass the test is ASCII
IsAscii-from_test : (text : List ℕ) → list_all (λ byte. nat_lt byte 128) text ≡ true → IsAscii text
IsAscii-from_test text passed =
    IsAscii-from_all text
    (λ k d within. ltb-true (slice_index_or text k d) 128 (AllPass-from_list_all (λ byte. nat_lt byte 128) text passed k d within))

-- the bytes of each name pass it
name_of-passes : (kind : Kind) → list_all (λ byte. nat_lt byte 128) (name_of kind) ≡ true
unfolding command_lines return_lines
name_of-passes Opaque = refl
name_of-passes _ = refl

pub IsAscii-name_of : (kind : Kind) → IsAscii (name_of kind)
IsAscii-name_of kind = IsAscii-from_test (name_of kind) (name_of-passes kind)

-- the length of each name passes the test
name_of-fits : (kind : Kind) → nat_lt (length (name_of kind)) 33 ≡ true
unfolding command_lines return_lines
name_of-fits Opaque = refl
name_of-fits _ = refl

pub length-name_of : (kind : Kind) → length (name_of kind) ≤ 32
length-name_of kind =
    let below : length (name_of kind) < 33 = ltb-true (length (name_of kind)) 33 (name_of-fits kind) in
    omega (arith, below)
