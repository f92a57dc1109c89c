-- The definitions at bytes that were written out by hand from the format.
use Rattle.std.proofs.Common.{◌≡◌, [], ◌∷◌, refl}
use Rattle.record_view.specs.Records.{RecordText, record_bytes}

-- `BC_ACQUIRE` of handle 5
acquire : RecordText
acquire = record { code = 0x40046305; payload = 5 ∷ 0 ∷ 0 ∷ 0 ∷ [] }

acquire_bytes : record_bytes acquire ≡ 5 ∷ 0x63 ∷ 4 ∷ 0x40 ∷ 5 ∷ 0 ∷ 0 ∷ 0 ∷ []
unfolding acquire record_bytes
acquire_bytes = refl
