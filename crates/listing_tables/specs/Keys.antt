-- Sums by which the delivery of a send is recognised (docs/DATABASE.md#send).
use Rattle.std.specs.Prelude.{◌≡◌, ℕ, ◌*◌, ◌%◌, ◌^◌, bit_xor, List, [], ◌∷◌, fold}
use Rattle.std.specs.Int.{to_le_bytes, w64}
use Rattle.std.specs.List.{flat_map}
use Rattle.transaction_view.specs.Transaction.{code, data_size, flags, offsets_size}

-- the sum of some bytes with one more: FNV-1a of 64 bits
abbrev pub with_byte : ℕ → ℕ → ℕ
with_byte sum byte = (bit_xor sum byte * 1099511628211) % 2 ^ 64

-- the sum of some bytes, after those that have this sum
abbrev pub sum_after : ℕ → List ℕ → ℕ
sum_after begun bytes = fold with_byte begun bytes

-- the sum of some bytes
abbrev pub sum_of_bytes : List ℕ → ℕ
sum_of_bytes bytes = sum_after 14695981039346656037 bytes

-- the sum of the bytes of these numbers, eight of each
abbrev pub sum_of_numbers : List ℕ → ℕ
sum_of_numbers numbers = sum_of_bytes (flat_map (to_le_bytes w64) numbers)

-- the key of a transaction or a reply on a device, with this payload, of whose data this is the sum: it is of all that
-- the driver hands on unchanged
abbrev pub key_with : ℕ → List ℕ → ℕ → ℕ
key_with device payload sum =
    sum_of_numbers (device ∷ code payload ∷ flags payload ∷ data_size payload ∷ offsets_size payload ∷ sum ∷ [])

-- the key is of the device and of the payload, and of a sum of the data
abbrev pub IsKey : ℕ → List ℕ → ℕ → Type 0
IsKey device payload key = (sum : ℕ) × (key ≡ key_with device payload sum)
