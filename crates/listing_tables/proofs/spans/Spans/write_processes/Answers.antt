use Rattle.listing_tables.specs.Spans.{process_columns}
use Rattle.listing_tables.proofs.NumberedRows.{numbered_more}
use Rattle.listing_tables.proofs.spans.Spans.write_processes.Goals as goal

pub loop-at-preserved : goal.loop-at-preserved
loop-at-preserved g c =
    numbered_more (λ number process. process_columns process) c.args.rows.now c.loop-at.rows c.push.new.self c.args.self.now.processes.entries c.loop-at.at
    c.in_ok-entry.entry c.process_columns.result c.in_ok-entry.ensures c.loop-at.invariant c.process_columns.ensures c.in_ok-push.ensures
