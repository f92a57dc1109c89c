-- The lines of the section `calls` (docs/REPORT.md).
use Rattle.std.specs.Prelude.{ℕ, List, ◌++◌, codes}
use Rattle.std.specs.Fmt.{decimal}
use Rattle.transaction_view.specs.Transaction.{target_handle}
use Rattle.event_core.specs.Events.{EventRead}
use Rattle.call_stacks.specs.declared.opener.Opener.{Opener}
use Rattle.report_text.specs.CallRow.{call_row}
use Rattle.report_text.specs.Section.{SectionText}

-- the head: how many calls there are, and how many of them are answered, failed and unanswered
abbrev pub calls_head : ℕ → ℕ → ℕ → ℕ → List ℕ
calls_head all answered failed unanswered =
    codes "calls " ++ decimal all ++ codes " answered " ++ decimal answered
    ++ codes " failed " ++ decimal failed ++ codes " unanswered " ++ decimal unanswered

-- the target handle of a call
abbrev pub target_field : List ℕ → List ℕ
target_field payload = decimal (target_handle payload)

-- a row: place, device, process, thread, target handle, code, verdict, closer
abbrev pub calls_row : Opener EventRead → List ℕ
calls_row call = call_row target_field call

-- the section: its head, and a row for each call that lacks its reply
abbrev pub calls_section : SectionText (Opener EventRead)
calls_section = record {
  head = λ found rows.
      let calls = found.calls.calls in
      calls_head calls.all calls.answered calls.failed calls.unanswered;
  rows = λ found. found.calls.calls.rows;
  line = calls_row;
}
