use Rattle.std.proofs.Common.{Option, sym, subst}
use Rattle.std.specs.Result.{OnOk}
use Rattle.listing_tables.specs.Columns.{WritesRows}
use Rattle.listing_tables.specs.Messages.{buffer_row, delivery_row}
use Rattle.listing_tables.specs.declared.buffers.Buffer.{Buffer}
use Rattle.listing_tables.specs.declared.messages.Detail.{Detail}
use Rattle.listing_tables.proofs.messages.Messages.write_delivery.Goals as goal

pub returns-in_ok-buffer-in-Delivered : goal.returns-in_ok-buffer-in-Delivered
returns-in_ok-buffer-in-Delivered g c =
    let list = c.args.self.now.list.all.items in
    let calls = c.args.calls.now.all.items in
    let message = c.args.message.now in
    let rows = c.write_buffer.new.rows in
    subst (λ (d : Detail). OnOk c.write_buffer.result (WritesRows c.args.rows.now rows (delivery_row list c.args.buffers.now.list.all.items calls message d)))
    (sym c.in-Delivered.is)
    (subst (λ (b : Option Buffer). OnOk c.write_buffer.result (WritesRows c.args.rows.now rows (buffer_row list calls message b)))
    (sym c.in_ok-buffer-in-Delivered.ensures) c.write_buffer.ensures)
