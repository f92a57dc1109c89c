-- The lines of the section `buffers` (docs/REPORT.md).
use Rattle.std.specs.Prelude.{ℕ, List, ◌++◌, codes}
use Rattle.std.specs.Fmt.{decimal}
use Rattle.binder_code.specs.Commands.{name_of}
use Rattle.transaction_view.specs.Transaction.{buffer, data_size}
use Rattle.event_core.specs.Events.{EventRead}
use Rattle.report_text.specs.EventRow.{row_start}
use Rattle.report_text.specs.Line.{hex_number}
use Rattle.report_text.specs.Section.{SectionText}

-- the head: how many deliveries there are, and how many of them are leaked
abbrev pub buffers_head : ℕ → ℕ → List ℕ
buffers_head deliveries leaked = codes "buffers " ++ decimal deliveries ++ codes " leaked " ++ decimal leaked

-- a row: place, device, process, address, data_size, kind
abbrev pub buffers_row : EventRead → List ℕ
buffers_row e =
    row_start e ++ codes " " ++ hex_number (buffer e.payload) ++ codes " " ++ decimal (data_size e.payload)
    ++ codes " " ++ name_of e.kind

-- the section: its head, and a row for each leaked delivery
abbrev pub buffers_section : SectionText EventRead
buffers_section = record {
  head = λ found rows. buffers_head found.events.counts.deliveries rows;
  rows = λ found. found.processes.leaked;
  line = buffers_row;
}
