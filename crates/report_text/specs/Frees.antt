-- The lines of the section `frees` (docs/REPORT.md).
use Rattle.std.specs.Prelude.{ℕ, List, ◌++◌, codes}
use Rattle.std.specs.Fmt.{decimal}
use Rattle.event_core.specs.Buffers.{freed_address}
use Rattle.event_core.specs.Events.{EventRead}
use Rattle.report_text.specs.EventRow.{row_start}
use Rattle.report_text.specs.Line.{hex_number}
use Rattle.report_text.specs.Section.{SectionText}

-- the head: how many frees there are, and how many of them are stray
abbrev pub frees_head : ℕ → ℕ → List ℕ
frees_head frees stray = codes "frees " ++ decimal frees ++ codes " stray " ++ decimal stray

-- a row: place, device, process, address
abbrev pub frees_row : EventRead → List ℕ
frees_row e = row_start e ++ codes " " ++ hex_number (freed_address e.payload)

-- the section: its head, and a row for each stray free
abbrev pub frees_section : SectionText EventRead
frees_section = record {
  head = λ found rows. frees_head found.events.counts.frees rows;
  rows = λ found. found.processes.stray_frees;
  line = frees_row;
}
