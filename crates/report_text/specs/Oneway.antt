-- The lines of the section `oneway` (docs/REPORT.md).
use Rattle.std.specs.Prelude.{ℕ, List, ◌++◌, codes}
use Rattle.std.specs.Fmt.{decimal}
use Rattle.event_core.specs.declared.oneway.OnewayKey.{OnewayKey}
use Rattle.event_core.specs.declared.oneway.OnewayKey.TheVariants.{Sent, Received}
use Rattle.audit_findings.specs.declared.in_turn.ProcessRow.{ProcessRow}
use Rattle.report_text.specs.ProcessRow.{process_start}
use Rattle.report_text.specs.Section.{SectionText}

-- the head: how many oneway transactions are sent, how many are received, and how many of the sent ones are refused
abbrev pub oneway_head : ℕ → ℕ → ℕ → List ℕ
oneway_head sent received refused =
    codes "oneway sent " ++ decimal sent ++ codes " received " ++ decimal received
    ++ codes " refused " ++ decimal refused

-- `sent` and the handle, or `received`
abbrev pub oneway_fields : OnewayKey → List ℕ
oneway_fields (Sent handle) = codes "sent " ++ decimal handle
oneway_fields Received = codes "received"

-- a row: device, process, `sent` and the handle or `received`, the count, the sum of data_size
abbrev pub oneway_row : ProcessRow (OnewayKey × ℕ × ℕ) → List ℕ
oneway_row of =
    process_start of.process ++ codes " " ++ oneway_fields of.row.0 ++ codes " " ++ decimal of.row.1
    ++ codes " " ++ decimal of.row.2

-- the section: its head, and the rows of each process in turn
abbrev pub oneway_section : SectionText (ProcessRow (OnewayKey × ℕ × ℕ))
oneway_section = record {
  head = λ found rows. oneway_head found.events.oneway.sent found.events.oneway.received found.calls.refused.oneway;
  rows = λ found. found.processes.oneway;
  line = oneway_row;
}
