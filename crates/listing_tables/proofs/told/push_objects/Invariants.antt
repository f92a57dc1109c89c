use Rattle.std.proofs.Common.{[]}
use Rattle.listing_tables.specs.Stream.{AddsRecords}
use Rattle.listing_tables.proofs.told.push_objects.Given as goal

-- no record is among the rows so far
abbrev pub invariant-loop-attached : goal.invariant-loop-attached
invariant-loop-attached g l = AddsRecords l.fn.rows l.rows []
