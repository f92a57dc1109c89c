-- The lines of the section `strays` (docs/REPORT.md).
use Rattle.std.specs.Prelude.{ℕ, List, ◌++◌, codes}
use Rattle.std.specs.Fmt.{decimal}
use Rattle.event_core.specs.Events.{EventRead}
use Rattle.report_text.specs.EventRow.{kind_row}
use Rattle.report_text.specs.Section.{SectionText}

-- the head: how many rows there are
abbrev pub strays_head : ℕ → List ℕ
strays_head rows = codes "strays " ++ decimal rows

-- the section: its head, and a row for each stray: place, device, process, thread, kind
abbrev pub strays_section : SectionText EventRead
strays_section = record { head = λ found. strays_head; rows = λ found. found.calls.strays; line = kind_row }
