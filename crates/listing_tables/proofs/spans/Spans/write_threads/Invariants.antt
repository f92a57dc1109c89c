use Rattle.std.proofs.Common.{take}
use Rattle.listing_tables.specs.Columns.{WritesRows}
use Rattle.listing_tables.specs.Spans.{thread_rows}
use Rattle.listing_tables.proofs.spans.Spans.write_threads.Given as goal

-- the rows of the first threads are written
abbrev pub invariant-loop-at : goal.invariant-loop-at
invariant-loop-at g l = WritesRows l.fn.rows l.rows (thread_rows (take l.at l.self.threads.entries))
