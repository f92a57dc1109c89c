use Rattle.std.proofs.Common.{◌+◌, ap, ◌∙◌}
use Rattle.listing_tables.specs.Generations.{generation_columns}
use Rattle.listing_tables.proofs.NumberedRows.{numbered_more}
use Rattle.listing_tables.proofs.generations.Generations.write.Goals as goal

pub loop-index-preserved : goal.loop-index-preserved
loop-index-preserved g c =
    numbered_more generation_columns c.args.rows.now c.loop-index.rows c.push.new.self c.args.self.now.list.all.items c.loop-index.index
    c.in_ok-generation.generation c.columns.result c.in_ok-generation.ensures c.loop-index.invariant
    (c.columns.ensures ∙ ap (λ k. generation_columns (k + 1) c.in_ok-generation.generation) c.from.ensures) c.in_ok-push.ensures
