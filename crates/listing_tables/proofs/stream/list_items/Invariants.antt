use Rattle.std.proofs.Common.{map}
use Rattle.capture_frame.specs.Envelope.{placed_frame}
use Rattle.listing_fields.specs.Content.{record_of_item}
use Rattle.listing_tables.specs.Stream.{AddsRecords}
use Rattle.listing_tables.specs.Walk.{record_begin}
use Rattle.listing_tables.proofs.stream.list_items.Given as goal

-- the first records are written
abbrev pub invariant-loop-item : goal.invariant-loop-item
invariant-loop-item g l = AddsRecords l.fn.rows l.rows (map (record_begin (placed_frame l.frame)) (map record_of_item l.yielded))
