use Rattle.std.proofs.Common.{◌≡◌, take}
use Rattle.std.specs.List.{flat_map}
use Rattle.listing_tables.specs.Columns.{AddsRows}
use Rattle.listing_tables.specs.Steps.{AddsMarked, marked_in}
use Rattle.listing_tables.specs.Walk.{BeginsWith, IsFrameRow, record_begins}
use Rattle.listing_tables.proofs.walk.walk_frames.Given as goal

abbrev pub invariant-loop-number : goal.invariant-loop-number
invariant-loop-number g l = record {
  frames : AddsRows IsFrameRow l.fn.streams.frames l.streams.frames (take l.number l.frames);
  records : AddsRows BeginsWith l.fn.streams.records l.streams.records (flat_map record_begins (take l.number l.frames));
  calls : l.streams.calls ≡ l.fn.streams.calls;
  marked : AddsMarked l.fn.tables.steps.entries.entries l.tables.steps.entries.entries (flat_map marked_in (take l.number l.frames));
}
