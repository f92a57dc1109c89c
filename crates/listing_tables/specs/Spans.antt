-- The rows of the raw tables process and thread (docs/DATABASE.md).
use Rattle.std.specs.Prelude.{ℕ, List, [], ◌∷◌}
use Rattle.capture_frame.specs.declared.process.Process.{Process}
use Rattle.capture_frame.specs.declared.process.Thread.{Thread}
use Rattle.listing_tables.specs.Columns.{column_of, number_at, numbered_rows}
use Rattle.listing_tables.specs.declared.rows.Column.{Column}
use Rattle.listing_tables.specs.declared.rows.Column.TheVariants.{Number}
use Rattle.listing_tables.specs.declared.spans.Span.{Span}

-- the row of a process with the span of its frames
abbrev pub process_columns : Process × Span → List Column
process_columns (process, span) =
    Number (number_at span.upid.index) ∷ Number process.device ∷ Number process.number ∷ Number span.first
    ∷ Number span.last ∷ Number span.frames ∷ []

-- the row of a thread that has this number, with the span of its frames
abbrev pub thread_columns : ℕ → Thread × Span → List Column
thread_columns number (thread, span) =
    Number number ∷ Number (number_at span.upid.index) ∷ Number thread.number ∷ Number span.first ∷ Number span.last
    ∷ Number span.frames ∷ column_of span.record ∷ column_of span.written ∷ []

-- the rows of all processes
abbrev pub process_rows : List (Process × Span) → List (List Column)
process_rows processes = numbered_rows (λ number process. process_columns process) processes

-- the rows of all threads
abbrev pub thread_rows : List (Thread × Span) → List (List Column)
thread_rows threads = numbered_rows thread_columns threads
