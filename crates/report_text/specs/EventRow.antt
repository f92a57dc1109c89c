-- How the row of an event begins, and the row that ends with the kind of the event (docs/REPORT.md).
use Rattle.std.specs.Prelude.{ℕ, List, ◌++◌, codes}
use Rattle.std.specs.Fmt.{decimal}
use Rattle.binder_code.specs.Commands.{name_of}
use Rattle.event_core.specs.Events.{EventRead, process_of}
use Rattle.report_text.specs.Process.{process_field, thread_field}

-- the beginning of a row: place, device and process of the event's record
abbrev pub row_start : EventRead → List ℕ
row_start e = codes "  " ++ decimal e.place ++ codes " " ++ process_field (process_of e)

-- the beginning of a row: place, device, process and thread of the event's record
abbrev pub thread_start : EventRead → List ℕ
thread_start e = row_start e ++ codes " " ++ thread_field e.thread

-- a row: place, device, process, thread, kind
abbrev pub kind_row : EventRead → List ℕ
kind_row e = thread_start e ++ codes " " ++ name_of e.kind
