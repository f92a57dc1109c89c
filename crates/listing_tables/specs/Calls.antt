-- The calls of the raw table call, by the definitions of call_stacks.
use Rattle.std.specs.Prelude.{ℕ, ◌+◌, ◌-◌, if◌then◌else◌, Bool, true, false, nat_le, Option, Some, None, List, [], ◌∷◌, ◌++◌, length, map, slice_get}
use Rattle.std.specs.List.{filter_map}
use Rattle.std.specs.Option.{option_map, option_or}
use Rattle.call_stacks.specs.Calls.{Reads, bracket_read, bracketed_of, openers_of, refused_of, strays_in}
use Rattle.call_stacks.specs.Matching.{is_closer}
use Rattle.call_stacks.specs.Verdicts.{side_of}
use Rattle.call_stacks.specs.declared.opener.Opener.{Opener}
use Rattle.call_stacks.specs.declared.verdict.Verdict.{Verdict}
use Rattle.call_stacks.specs.declared.verdict.Verdict.TheVariants.{Answered, Failed, Replied, Crossed, Open}
use Rattle.event_core.specs.declared.marks.Bracket.{Bracket}
use Rattle.event_core.specs.declared.marks.Bracket.TheVariants.{Served}
use Rattle.listing_tables.specs.declared.calls.Call.{Call}
use Rattle.listing_tables.specs.declared.calls.CallStep.{CallStep}

-- where a record is that leaves a mark
abbrev pub step_place : CallStep → ℕ
step_place step = step.place

-- what is read of it to find the calls of its thread: its place, its kind, and whether it is a oneway transaction
abbrev pub step_reads : Reads CallStep
step_reads = record { place = step_place; kind = λ step. step.kind; oneway = λ step. step.oneway }

-- what the columns place, served, closer, verdict, depth and parent of a call are
pub record CallRow : Type 0 where
  pub place : ℕ
  pub served : Bool
  pub closer : Option ℕ
  pub verdict : Verdict
  pub depth : ℕ
  pub parent : Option ℕ

-- the place of the record that closes a call of the table, if one does
abbrev pub closer_place : Call → Option ℕ
closer_place call = option_map (λ closer. closer.place) call.closer

-- those of a call of the table
abbrev pub row_of_call : Call → CallRow
row_of_call call = record {
  place = call.place;
  served = call.served;
  closer = closer_place call;
  verdict = call.verdict;
  depth = call.depth;
  parent = call.parent;
}

-- whether it is a call that a thread gets to serve
abbrev pub is_served : Bracket → Bool
is_served Served = true
is_served _ = false

-- those of a call by the definitions, by itself: the places of its opener and of its closer, and its verdict
abbrev pub row_of_opener : Opener CallStep → CallRow
row_of_opener opener = record {
  place = opener.event.place;
  served = is_served (bracket_read step_reads None opener.event);
  closer = opener.closer;
  verdict = opener.verdict;
  depth = 1;
  parent = None;
}

-- whether a call with this closer is not closed before a place
abbrev pub is_open_until : ℕ → Option ℕ → Bool
is_open_until place None = true
is_open_until place (Some end) = nat_le place end

-- this call, if it is not closed before a place
abbrev pub if_open : ℕ → CallRow → Option CallRow
if_open place row = if is_open_until place row.closer then Some row else None

-- the last of these calls that is not closed before a place
abbrev pub innermost : ℕ → List CallRow → Option CallRow
innermost place [] = None
innermost place (row ∷ later) = option_or (innermost place later) (if_open place row)

-- how deep a call is within this one: 1 if there is none
abbrev pub depth_within : Option CallRow → ℕ
depth_within None = 1
depth_within (Some around) = around.depth + 1

-- a call within this one, if there is one
abbrev pub within : Option CallRow → CallRow → CallRow
within around row = record row { depth = depth_within around; parent = option_map (λ it. it.place) around }

-- the calls of a thread, each within the last one before it that is not closed before it
abbrev pub nested_after : List CallRow → List CallRow → List CallRow
nested_after before [] = []
nested_after before (row ∷ later) =
    let call = within (innermost row.place before) row in
    call ∷ nested_after (before ++ call ∷ []) later

-- the last of these calls
abbrev pub last_call : List Call → Option Call
last_call calls = slice_get calls (length calls - 1)

-- the calls of a thread in which these records leave a mark, in the order of their openers
abbrev pub rows_of : List CallStep → List CallRow
rows_of steps = nested_after [] (map row_of_opener (openers_of step_reads steps))

-- whether a record is a reply or an error reply
abbrev pub is_reply_step : CallStep → Bool
is_reply_step step = is_closer (side_of (bracket_read step_reads None step))

-- the places of the closers of these calls
abbrev pub closers_in : List CallRow → List ℕ
closers_in rows = filter_map (λ row. row.closer) rows

-- the strays of a thread in which these records leave a mark
abbrev pub strays_of : List CallStep → List CallStep
strays_of steps = strays_in (bracketed_of step_reads steps)

-- the error replies of such a thread that report a refused send
abbrev pub refusals_of : List CallStep → List CallStep
refusals_of steps = map (λ sent. sent.event) (refused_of (bracketed_of step_reads steps))

-- the place of a call of the table
abbrev pub call_place : Call → ℕ
call_place call = call.place

-- the number of a verdict in the table
abbrev pub verdict_number : Verdict → ℕ
verdict_number Open = 0
verdict_number Answered = 1
verdict_number Replied = 2
verdict_number Failed = 3
verdict_number Crossed = 4
