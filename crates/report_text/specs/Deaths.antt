-- The lines of the section `deaths`: unacknowledged deaths and stray acknowledgements (docs/REPORT.md).
use Rattle.std.specs.Prelude.{ℕ, List, codes}
use Rattle.binder_code.specs.declared.record_kind.Kind.{Kind}
use Rattle.binder_code.specs.declared.record_kind.Kind.TheVariants.{BrDeadBinder}
use Rattle.event_core.specs.Events.{EventRead}
use Rattle.event_core.specs.Requests.{cookie_alone}
use Rattle.report_text.specs.OpenAndStray.{open_and_stray_head, open_and_stray_row}
use Rattle.report_text.specs.Section.{SectionText}

-- the head: how many deaths there are, how many of them are unacknowledged, and how many acknowledgements are stray
abbrev pub deaths_head : ℕ → ℕ → ℕ → List ℕ
deaths_head all unclosed strays = open_and_stray_head (codes "deaths") (codes "unacknowledged") all unclosed strays

-- the word of a row: `unacknowledged` for a death, `stray` for an acknowledgement
abbrev pub death_word : Kind → List ℕ
death_word BrDeadBinder = codes "unacknowledged"
death_word _ = codes "stray"

-- a row: place, device, process, cookie, and `unacknowledged` or `stray`
abbrev pub deaths_row : EventRead → List ℕ
deaths_row e = open_and_stray_row (death_word e.kind) (cookie_alone e.payload) e

-- the section: its head, and a row for each unacknowledged death and each stray acknowledgement
abbrev pub deaths_section : SectionText EventRead
deaths_section = record {
  head = λ found rows. deaths_head found.events.counts.deaths
      found.processes.deaths.unclosed found.processes.deaths.strays;
  rows = λ found. found.processes.deaths.rows;
  line = deaths_row;
}
