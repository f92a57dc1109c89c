use Rattle.std.proofs.lemmas.Result.{IfOk-weaker}
use Rattle.listing_tables.proofs.TableLaws.{kept_table}
use Rattle.listing_tables.proofs.outputs.write_table.Goals as goal

pub returns-clause-written : goal.returns-clause-written
returns-clause-written g c =
    let at = g.W.Write.contents in
    let to = c.args.to in
    IfOk-weaker c.finish.result _ _
    (λ writer kept. kept_table c.args.tables.now to.table (at to.writer) c.new-rows.result c.write.new.rows (at writer) c.new-rows.ensures
    c.in_ok-write.ensures.written kept)
    c.finish.ensures
