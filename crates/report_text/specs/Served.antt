-- The lines of the section `served` (docs/REPORT.md).
use Rattle.std.specs.Prelude.{ℕ, List, ◌++◌, codes}
use Rattle.std.specs.Fmt.{decimal, signed_decimal}
use Rattle.transaction_view.specs.Transaction.{sender_pid}
use Rattle.event_core.specs.Events.{EventRead}
use Rattle.call_stacks.specs.declared.opener.Opener.{Opener}
use Rattle.report_text.specs.CallRow.{call_row}
use Rattle.report_text.specs.Section.{SectionText}

-- the head: how many served calls there are, and how many of them are replied, crossed and open
abbrev pub served_head : ℕ → ℕ → ℕ → ℕ → List ℕ
served_head all replied crossed left_open =
    codes "served " ++ decimal all ++ codes " replied " ++ decimal replied
    ++ codes " crossed " ++ decimal crossed ++ codes " open " ++ decimal left_open

-- sender_pid: the process id of the caller, as the driver gives it
abbrev pub sender_field : List ℕ → List ℕ
sender_field payload = signed_decimal (sender_pid payload)

-- a row: place, device, process, thread, sender_pid, code, verdict, closer
abbrev pub served_row : Opener EventRead → List ℕ
served_row call = call_row sender_field call

-- the section: its head, and a row for each served call that lacks its reply
abbrev pub served_section : SectionText (Opener EventRead)
served_section = record {
  head = λ found rows.
      let served = found.calls.served in
      served_head served.all served.replied served.crossed served.left_open;
  rows = λ found. found.calls.served.rows;
  line = served_row;
}
