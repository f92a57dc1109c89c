-- The lines of the section `flags` (docs/REPORT.md).
use Rattle.std.specs.Prelude.{ℕ, List, ◌++◌, codes}
use Rattle.std.specs.Fmt.{decimal}
use Rattle.event_core.specs.Events.{EventRead}
use Rattle.audit_findings.specs.Flags.{unknown_flags}
use Rattle.report_text.specs.EventRow.{row_start}
use Rattle.report_text.specs.Line.{hex_word}
use Rattle.report_text.specs.Section.{SectionText}

-- the head: how many rows there are
abbrev pub flags_head : ℕ → List ℕ
flags_head rows = codes "flags " ++ decimal rows

-- a row: place, device, process, unknown flags
abbrev pub flags_row : EventRead → List ℕ
flags_row e = row_start e ++ codes " " ++ hex_word (unknown_flags e)

-- the section: its head, and a row for each record with unknown flags
abbrev pub flags_section : SectionText EventRead
flags_section = record { head = λ found. flags_head; rows = λ found. found.events.flags; line = flags_row }
