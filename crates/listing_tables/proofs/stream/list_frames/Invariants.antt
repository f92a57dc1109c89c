use Rattle.std.proofs.Common.{take}
use Rattle.std.specs.List.{flat_map}
use Rattle.listing_tables.specs.Stream.{AddsRecords}
use Rattle.listing_tables.specs.Walk.{record_begins}
use Rattle.listing_tables.proofs.stream.list_frames.Given as goal

-- the records of the first frames are written
abbrev pub invariant-loop-number : goal.invariant-loop-number
invariant-loop-number g l = AddsRecords l.fn.rows l.rows (flat_map record_begins (take l.number l.frames))
