use Rattle.std.proofs.Common.{Option, ℕ, ap, ap₂, ◌∙◌}
use Rattle.std.proofs.lemmas.Result.{on_ok_weaker}
use Rattle.listing_tables.specs.Columns.{IsThisRow}
use Rattle.listing_tables.specs.Messages.{delivery_columns, place_for, place_of_message}
use Rattle.listing_tables.specs.Numbered.{thing_at}
use Rattle.listing_tables.proofs.WalkLaws.{one_row}
use Rattle.listing_tables.proofs.messages.Messages.write_buffer.Goals as goal

pub returns : goal.returns
returns g c =
    let message = c.args.message.now in
    let buffer = c.args.buffer.now in
    let call = place_for message.kind (thing_at c.args.calls.now.all.items message.call) in
    let partner = place_of_message (thing_at c.args.self.now.list.all.items message.partner) in
    on_ok_weaker c.push.result
    (one_row IsThisRow c.args.rows.now c.push.new.self (delivery_columns message buffer call partner) c.delivery_columns.result
    (c.delivery_columns.ensures
    ∙ ap₂ (λ (a b : Option ℕ). delivery_columns message buffer a b)
    (c.place_for-call.ensures ∙ ap (place_for message.kind) c.in_ok-find.ensures.found) c.in_ok-partner.ensures))
    c.push.ensures
