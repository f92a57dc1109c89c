use Rattle.std.specs.Prelude.{ℕ, ◌-◌, ◌^◌, List, [], ◌∷◌, map, fold, codes}
use Rattle.std.specs.Int.RustNames.{bit_and, bit_or}
use Rattle.binder_code.specs.declared.flags.TransactionFlags.{TransactionFlags}

-- the name and the bits of each flag of a transaction (`linux/android/binder.h`, `enum transaction_flags`)
abbrev pub flag_table : List (List ℕ × ℕ)
flag_table =
    (codes "TF_ONE_WAY", 0x01) ∷
    (codes "TF_ROOT_OBJECT", 0x04) ∷
    (codes "TF_STATUS_CODE", 0x08) ∷
    (codes "TF_ACCEPT_FDS", 0x10) ∷
    (codes "TF_CLEAR_BUF", 0x20) ∷
    (codes "TF_UPDATE_TXN", 0x40) ∷
    []

-- the bits of all six flags of a transaction (`linux/android/binder.h`, `enum transaction_flags`)
abbrev pub known_flags : ℕ
known_flags = fold bit_or 0 (map (λ flag. flag.1) flag_table)

-- the unknown bits of a flags word: those that none of the six flags has
-- (`linux/android/binder.h`, `enum transaction_flags`)
abbrev pub unknown_of : ℕ → ℕ
unknown_of flags = bit_and flags (2 ^ 32 - 1 - known_flags)

-- the bits of a set of flags, known or not
abbrev pub bits_of : TransactionFlags → ℕ
bits_of flags = flags.0
