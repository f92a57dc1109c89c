use Rattle.std.proofs.Common.{take}
use Rattle.listing_tables.specs.Columns.{WritesRows}
use Rattle.listing_tables.specs.Spans.{process_rows}
use Rattle.listing_tables.proofs.spans.Spans.write_processes.Given as goal

-- the rows of the first processes are written
abbrev pub invariant-loop-at : goal.invariant-loop-at
invariant-loop-at g l = WritesRows l.fn.rows l.rows (process_rows (take l.at l.self.processes.entries))
