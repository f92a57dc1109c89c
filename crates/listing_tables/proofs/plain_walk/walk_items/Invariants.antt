use Rattle.std.proofs.Common.{◌≡◌, length, map}
use Rattle.capture_frame.specs.Envelope.{placed_frame}
use Rattle.listing_fields.specs.Content.{record_of_item}
use Rattle.listing_tables.specs.Columns.{AddsRows}
use Rattle.listing_tables.specs.Walk.{BeginsWith, record_begin}
use Rattle.listing_tables.proofs.plain_walk.walk_items.Given as goal

abbrev pub invariant-loop-item : goal.invariant-loop-item
invariant-loop-item g l = record {
  count : l.count ≡ length l.yielded;
  frames : l.streams.frames ≡ l.fn.streams.frames;
  records : AddsRows BeginsWith l.fn.streams.records l.streams.records (map (record_begin (placed_frame l.frame)) (map record_of_item l.yielded));
}
