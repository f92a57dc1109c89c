use Rattle.listing_tables.specs.Spans.{thread_columns}
use Rattle.listing_tables.proofs.NumberedRows.{numbered_more}
use Rattle.listing_tables.proofs.spans.Spans.write_threads.Goals as goal

pub loop-at-preserved : goal.loop-at-preserved
loop-at-preserved g c =
    numbered_more thread_columns c.args.rows.now c.loop-at.rows c.push.new.self c.args.self.now.threads.entries c.loop-at.at
    c.in_ok-entry.entry c.thread_columns.result c.in_ok-entry.ensures c.loop-at.invariant c.thread_columns.ensures c.in_ok-push.ensures
