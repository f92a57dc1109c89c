-- The lines of the section `nodes` (docs/REPORT.md).
use Rattle.std.specs.Prelude.{List, ℕ, ◌++◌, codes}
use Rattle.std.specs.Fmt.{signed_decimal}
use Rattle.handle_ledger.specs.declared.node_row.NodeRow.{NodeRow}
use Rattle.audit_findings.specs.declared.in_turn.ProcessRow.{ProcessRow}
use Rattle.report_text.specs.Line.{hex_number}
use Rattle.report_text.specs.ProcessRow.{process_start, count_fields, unbalanced_head}
use Rattle.report_text.specs.Section.{SectionText}

-- a row: device, process, ptr, cookie, the strong count and its low, the weak count and its low, strong due, weak due
abbrev pub nodes_row : ProcessRow NodeRow → List ℕ
nodes_row of =
    process_start of.process ++ codes " " ++ hex_number of.row.key.ptr ++ codes " " ++ hex_number of.row.key.cookie
    ++ count_fields of.row.counts.strong.sum of.row.counts.strong.low
    ++ count_fields of.row.counts.weak.sum of.row.counts.weak.low
    ++ codes " " ++ signed_decimal of.row.counts.strong_due ++ codes " " ++ signed_decimal of.row.counts.weak_due

-- the section: its head, and the rows of each process in turn
abbrev pub nodes_section : SectionText (ProcessRow NodeRow)
nodes_section = record {
  head = λ found rows. unbalanced_head (codes "nodes") rows found.processes.nodes.unbalanced;
  rows = λ found. found.processes.nodes.rows;
  line = nodes_row;
}
