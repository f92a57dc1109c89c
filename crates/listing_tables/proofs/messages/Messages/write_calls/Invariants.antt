use Rattle.std.proofs.Common.{take}
use Rattle.listing_tables.specs.Columns.{AddsRows}
use Rattle.listing_tables.specs.Messages.{IsCallRow}
use Rattle.listing_tables.proofs.messages.Messages.write_calls.Given as goal

abbrev pub invariant-loop-index : goal.invariant-loop-index
invariant-loop-index g l = AddsRows (IsCallRow l.self.list.all.items) l.fn.rows l.rows (take l.index l.calls.all.items)
