-- What the sections `calls` and `served` have in common: the row of a call (docs/REPORT.md). One field differs: what it
-- says of the other side of the call.
use Rattle.std.specs.Prelude.{ℕ, List, ◌++◌, codes, Option, Some, None}
use Rattle.std.specs.Fmt.{decimal}
use Rattle.transaction_view.specs.Transaction.{code}
use Rattle.event_core.specs.Events.{EventRead}
use Rattle.call_stacks.specs.declared.opener.Opener.{Opener}
use Rattle.call_stacks.specs.declared.verdict.Verdict.{Verdict}
use Rattle.call_stacks.specs.declared.verdict.Verdict.TheVariants.{Answered, Failed, Replied, Crossed, Open}
use Rattle.report_text.specs.EventRow.{thread_start}

-- a verdict, as it is printed
abbrev pub verdict_name : Verdict → List ℕ
verdict_name Answered = codes "answered"
verdict_name Failed = codes "failed"
verdict_name Replied = codes "replied"
verdict_name Crossed = codes "crossed"
verdict_name Open = codes "open"

-- the place of the closer, or `-` if there is none
abbrev pub closer_field : Option ℕ → List ℕ
closer_field None = codes "-"
closer_field (Some place) = decimal place

-- what a row says of a call's record: the field of the other side, and the code
abbrev pub record_fields : (List ℕ → List ℕ) → List ℕ → List ℕ
record_fields other_side payload = codes " " ++ other_side payload ++ codes " " ++ decimal (code payload)

-- a row: place, device, process, thread, the field of the other side, code, verdict, closer
abbrev pub call_row : (List ℕ → List ℕ) → Opener EventRead → List ℕ
call_row other_side call =
    thread_start call.event ++ record_fields other_side call.event.payload
    ++ codes " " ++ verdict_name call.verdict ++ codes " " ++ closer_field call.closer

-- the row of a call that is kept with its verdict and its closer, and whose event is read again
abbrev pub row_of_kept : (List ℕ → List ℕ) → Opener ℕ → EventRead → List ℕ
row_of_kept other_side call e = call_row other_side (record { event = e; verdict = call.verdict; closer = call.closer })
