-- The lines of the section `refused` (docs/REPORT.md).
use Rattle.std.specs.Prelude.{ℕ, List, ◌++◌, codes}
use Rattle.std.specs.Fmt.{decimal}
use Rattle.event_core.specs.Events.{EventRead}
use Rattle.report_text.specs.EventRow.{kind_row}
use Rattle.report_text.specs.Section.{SectionText}

-- the head: how many rows there are
abbrev pub refused_head : ℕ → List ℕ
refused_head rows = codes "refused " ++ decimal rows

-- the section: its head, and a row for each error reply that reports a refused send: place, device, process, thread,
-- kind
abbrev pub refused_section : SectionText EventRead
refused_section = record { head = λ found. refused_head; rows = λ found. found.calls.refused.rows; line = kind_row }
