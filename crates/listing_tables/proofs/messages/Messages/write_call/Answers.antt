use Rattle.std.proofs.Common.{ap, ◌∙◌}
use Rattle.std.proofs.lemmas.Result.{on_ok_weaker}
use Rattle.listing_tables.specs.Messages.{IsCallRow, call_columns}
use Rattle.listing_tables.proofs.WalkLaws.{one_row}
use Rattle.listing_tables.proofs.messages.Messages.write_call.Goals as goal

pub returns : goal.returns
returns g c =
    let list = c.args.self.now.list.all.items in
    let call = c.args.call.now in
    let is : IsCallRow list call c.call_columns.result = record {
      opener = c.in_ok-opener.opener;
      opens = c.in_ok-opener.ensures;
      are = c.call_columns.ensures ∙ ap (call_columns call c.in_ok-opener.opener) c.in_ok-duration.ensures;
    } in
    on_ok_weaker c.push.result (one_row (IsCallRow list) c.args.rows.now c.push.new.self call c.call_columns.result is) c.push.ensures
