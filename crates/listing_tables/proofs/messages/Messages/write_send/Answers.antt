use Rattle.std.proofs.Common.{sym, ap, subst, ◌∙◌}
use Rattle.std.proofs.lemmas.Result.{on_ok_weaker}
use Rattle.std.specs.Result.{OnOk}
use Rattle.listing_tables.specs.Columns.{IsThisRow, WritesRows}
use Rattle.listing_tables.specs.Messages.{place_of_message, send_columns, send_row}
use Rattle.listing_tables.specs.Numbered.{thing_at}
use Rattle.listing_tables.specs.declared.messages.Detail.{Detail}
use Rattle.listing_tables.proofs.WalkLaws.{one_row}
use Rattle.listing_tables.proofs.messages.Messages.write_send.Goals as goal

pub returns-in_ok-partner-in-Sent : goal.returns-in_ok-partner-in-Sent
returns-in_ok-partner-in-Sent g c =
    let list = c.args.self.now.list.all.items in
    let message = c.args.message.now in
    let row = send_columns message c.in-Sent.sent (place_of_message (thing_at list message.partner)) in
    subst (λ (d : Detail). OnOk c.push.result (WritesRows c.args.rows.now c.push.new.self (send_row list message d))) (sym c.in-Sent.is)
    (on_ok_weaker c.push.result
    (one_row IsThisRow c.args.rows.now c.push.new.self row c.send_columns.result
    (c.send_columns.ensures ∙ ap (send_columns message c.in-Sent.sent) c.in_ok-partner-in-Sent.ensures)) c.push.ensures)
