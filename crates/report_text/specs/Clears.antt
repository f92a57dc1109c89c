-- The lines of the section `clears`: unconfirmed clears and stray confirmations (docs/REPORT.md).
use Rattle.std.specs.Prelude.{ℕ, List, codes}
use Rattle.binder_code.specs.declared.record_kind.Kind.{Kind}
use Rattle.binder_code.specs.declared.record_kind.Kind.TheVariants.{BcClearDeathNotification}
use Rattle.event_core.specs.Clears.{clear_cookie}
use Rattle.event_core.specs.Events.{EventRead}
use Rattle.report_text.specs.OpenAndStray.{open_and_stray_head, open_and_stray_row}
use Rattle.report_text.specs.Section.{SectionText}

-- the head: how many clears there are, how many of them are unconfirmed, and how many confirmations are stray
abbrev pub clears_head : ℕ → ℕ → ℕ → List ℕ
clears_head all unclosed strays = open_and_stray_head (codes "clears") (codes "unconfirmed") all unclosed strays

-- the word of a row: `unconfirmed` for a clear, `stray` for a confirmation
abbrev pub clear_word : Kind → List ℕ
clear_word BcClearDeathNotification = codes "unconfirmed"
clear_word _ = codes "stray"

-- a row: place, device, process, cookie, and `unconfirmed` or `stray`
abbrev pub clears_row : EventRead → List ℕ
clears_row e = open_and_stray_row (clear_word e.kind) (clear_cookie e.kind e.payload) e

-- the section: its head, and a row for each unconfirmed clear and each stray confirmation
abbrev pub clears_section : SectionText EventRead
clears_section = record {
  head = λ found rows. clears_head found.events.counts.clears
      found.processes.clears.unclosed found.processes.clears.strays;
  rows = λ found. found.processes.clears.rows;
  line = clears_row;
}
