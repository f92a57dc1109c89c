use Rattle.listing_tables.specs.Columns.{IsThisRow}
use Rattle.listing_tables.specs.Messages.{send_row}
use Rattle.listing_tables.specs.declared.messages.Message.{Message}
use Rattle.listing_tables.proofs.WalkLaws.{rows_after}
use Rattle.listing_tables.proofs.messages.Messages.write_sends.Goals as goal

pub loop-index-preserved : goal.loop-index-preserved
loop-index-preserved g c =
    rows_after IsThisRow c.args.rows.now c.loop-index.rows c.write_send.new.rows
    (λ (message : Message). send_row c.args.self.now.list.all.items message message.detail) c.args.self.now.list.all.items c.loop-index.index c.in_ok-message.message
    c.in_ok-message.ensures c.loop-index.invariant c.in_ok-write_send.ensures
