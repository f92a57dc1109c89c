use Rattle.std.proofs.Common.{take}
use Rattle.std.specs.List.{flat_map}
use Rattle.listing_tables.specs.Columns.{WritesRows}
use Rattle.listing_tables.specs.Messages.{delivery_row}
use Rattle.listing_tables.specs.declared.messages.Message.{Message}
use Rattle.listing_tables.proofs.messages.Messages.write_deliveries.Given as goal

-- the rows of the first messages are written
abbrev pub invariant-loop-index : goal.invariant-loop-index
invariant-loop-index g l =
    WritesRows l.fn.rows l.rows (flat_map (λ (message : Message). delivery_row l.self.list.all.items l.buffers.list.all.items l.calls.all.items message message.detail) (take l.index l.self.list.all.items))
