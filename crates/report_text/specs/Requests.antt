-- The lines of the section `requests` (docs/REPORT.md).
use Rattle.std.specs.Prelude.{ℕ, List, ◌++◌, codes}
use Rattle.std.specs.Fmt.{decimal}
use Rattle.event_core.specs.Events.{EventRead}
use Rattle.event_core.specs.Requests.{request_key}
use Rattle.event_core.specs.declared.request.RequestKey.{RequestKey}
use Rattle.report_text.specs.EventRow.{row_start}
use Rattle.report_text.specs.Line.{hex_number}
use Rattle.report_text.specs.Section.{SectionText}

-- the head: how many requests there are, and how many of them are standing
abbrev pub requests_head : ℕ → ℕ → List ℕ
requests_head requests standing = codes "requests " ++ decimal requests ++ codes " standing " ++ decimal standing

-- what a row says of a request: handle, cookie
abbrev pub request_fields : RequestKey → List ℕ
request_fields key = codes " " ++ decimal key.handle ++ codes " " ++ hex_number key.cookie

-- a row: place, device, process, handle, cookie
abbrev pub requests_row : EventRead → List ℕ
requests_row e = row_start e ++ request_fields (request_key e.payload)

-- the section: its head, and a row for each standing request
abbrev pub requests_section : SectionText EventRead
requests_section = record {
  head = λ found rows. requests_head found.events.counts.requests rows;
  rows = λ found. found.processes.standing;
  line = requests_row;
}
