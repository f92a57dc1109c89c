-- The lines of the section `handles` (docs/REPORT.md).
use Rattle.std.specs.Prelude.{List, ℕ, ◌++◌, codes}
use Rattle.std.specs.Fmt.{decimal}
use Rattle.handle_ledger.specs.declared.held_row.HeldRow.{HeldRow}
use Rattle.audit_findings.specs.declared.in_turn.ProcessRow.{ProcessRow}
use Rattle.report_text.specs.ProcessRow.{process_start, count_fields, unbalanced_head}
use Rattle.report_text.specs.Section.{SectionText}

-- a row: device, process, handle, the strong count and its low, the weak count and its low, held strong, held weak
abbrev pub handles_row : ProcessRow HeldRow → List ℕ
handles_row of =
    process_start of.process ++ codes " " ++ decimal of.row.handle
    ++ count_fields of.row.taken.strong.sum of.row.taken.strong.low
    ++ count_fields of.row.taken.weak.sum of.row.taken.weak.low ++ codes " " ++ decimal of.row.held_strong ++ codes " "
    ++ decimal of.row.held_weak

-- the section: its head, and the rows of each process in turn
abbrev pub handles_section : SectionText (ProcessRow HeldRow)
handles_section = record {
  head = λ found rows. unbalanced_head (codes "handles") rows found.processes.handles.unbalanced;
  rows = λ found. found.processes.handles.rows;
  line = handles_row;
}
