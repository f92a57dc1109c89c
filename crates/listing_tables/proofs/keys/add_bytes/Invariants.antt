use Rattle.std.proofs.Common.{◌≡◌, take}
use Rattle.listing_tables.specs.Keys.{sum_after}
use Rattle.listing_tables.proofs.keys.add_bytes.Given as goal

abbrev pub invariant-loop-byte : goal.invariant-loop-byte
invariant-loop-byte l = l.sum ≡ sum_after l.begun (take l.byte-index l.bytes)
