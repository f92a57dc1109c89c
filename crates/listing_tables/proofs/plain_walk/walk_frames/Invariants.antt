use Rattle.std.proofs.Common.{take}
use Rattle.std.specs.List.{flat_map}
use Rattle.listing_tables.specs.Columns.{AddsRows}
use Rattle.listing_tables.specs.Walk.{BeginsWith, IsFrameRow, record_begins}
use Rattle.listing_tables.proofs.plain_walk.walk_frames.Given as goal

abbrev pub invariant-loop-number : goal.invariant-loop-number
invariant-loop-number g l = record {
  frames : AddsRows IsFrameRow l.fn.streams.frames l.streams.frames (take l.number l.frames);
  records : AddsRows BeginsWith l.fn.streams.records l.streams.records (flat_map record_begins (take l.number l.frames));
}
