-- The bits of a flags word that the header names, and the rest.
use Rattle.std.proofs.Common.{◌≡◌, ◌+◌, ◌-◌, ◌^◌, ◌<◌, ℕ, refl, arith}
use Rattle.std.proofs.lemmas.Nat.{and-not, and_comm}
use Rattle.std.specs.Int.RustNames.{bit_and}
use Rattle.bitflags.specs.Sets.{known_bits, known_from}
use Rattle.binder_code.specs.Flags.{flag_table, known_flags, unknown_of}

-- the bits that `Flags` knows by the table
pub known_bits-flag_table : known_bits flag_table ≡ known_flags
unfolding known_from
known_bits-flag_table = refl

-- the known bits and the unknown ones are the whole word
pub known-unknown : (flags : ℕ) → flags < 2 ^ 32 → bit_and flags known_flags + unknown_of flags ≡ flags
known-unknown flags fits =
    let whole = and-not 32 known_flags flags (omega arith) fits in
    let known = and_comm known_flags flags in
    let unknown = and_comm (2 ^ 32 - 1 - known_flags) flags in
    omega arith
