-- The calls of a thread, and those of a piece of its events (docs/REPORT.md).
use Rattle.std.specs.Prelude.{◌≡◌, ℕ, ◌+◌, ◌-◌, ◌==◌, ◌&&◌, if◌then◌else◌, Bool, true, false, Option, Some, None, option_and_then, is_some}
use Rattle.std.specs.Prelude.{List, [], ◌∷◌, map, filter, count_by, fold, find, filter_map, slice_get}
use Rattle.std.specs.List.Sorted.{IsPermutation}
use Rattle.std.specs.Option.{option_or}
use Rattle.event_core.specs.Brackets.{is_oneway, mark_of, bracket_of}
use Rattle.binder_code.specs.declared.record_kind.Kind.{Kind}
use Rattle.event_core.specs.declared.event.Event.{Event}
use Rattle.event_core.specs.declared.marks.Bracket.{Bracket}
use Rattle.event_core.specs.declared.marks.Bracket.TheVariants.{Error, Refused, Neither}
use Rattle.event_core.specs.declared.marks.Mark.{Mark}
use Rattle.event_core.specs.declared.marks.Mark.TheVariants.{Oneway}
use Rattle.summary_law.specs.Fits.{IsPlaced}
use Rattle.call_stacks.specs.declared.call_record.CallEvent.{CallEvent}
use Rattle.call_stacks.specs.declared.calls.Calls.{Calls}
use Rattle.call_stacks.specs.declared.findings.CallFindings.{CallFindings}
use Rattle.call_stacks.specs.declared.findings.RefusedSend.{RefusedSend}
use Rattle.call_stacks.specs.declared.opener.Opener.{Opener}
use Rattle.call_stacks.specs.declared.verdict.Verdict.{Verdict}
use Rattle.call_stacks.specs.declared.verdict.Verdict.TheVariants.{Open}
use Rattle.call_stacks.specs.Matching.{Side, opener, closer, neither, is_closer, is_opener}
use Rattle.summary_law.specs.Readings.{read_all, chosen}
use Rattle.call_stacks.specs.Verdicts.{side_of, verdict_of, is_answered, is_replied, is_open, is_closed, lacks_reply}

-- what is read of an event to find the calls of its thread: its place, its kind, and whether it is a oneway transaction
pub record Reads (E : Type 0) : Type 0 where
  pub place : E → ℕ
  pub kind : E → Kind
  pub oneway : E → Bool

-- the mark that an event leaves in its thread, if any
abbrev pub mark_read : {E : Type 0} → Reads E → E → Option Mark
mark_read reads event = mark_of (reads.kind event) (reads.oneway event)

-- the bracket of an event, given the thread's latest mark before it: what the event is among the calls of its thread
abbrev pub bracket_read : {E : Type 0} → Reads E → Option Mark → E → Bracket
bracket_read reads before event = bracket_of before (reads.kind event) (reads.oneway event)

-- the latest mark after an event: the one that it leaves, or if it leaves none the latest one before it
abbrev pub mark_after : {E : Type 0} → Reads E → Option Mark → E → Option Mark
mark_after reads before event = option_or (mark_read reads event) before

-- a bracketed event: the event, the latest mark before it, and its bracket
pub record Bracketed (E : Type 0) : Type 0 where
  pub event : E
  pub before : Option Mark
  pub bracket : Bracket

-- the events, each bracketed by the latest mark before it; before the first event that is the given mark, if any
abbrev pub bracketed_with : {E : Type 0} → Reads E → (Option Mark → E → Bracket) → Option Mark → List E → List (Bracketed E)
bracketed_with reads bracket_by before [] = []
bracketed_with reads bracket_by before (event ∷ later) =
    record { event = event; before = before; bracket = bracket_by before event }
    ∷ bracketed_with reads bracket_by (mark_after reads before event) later

-- the events of a whole thread, bracketed: before the first one there is no mark
abbrev pub bracketed_of : {E : Type 0} → Reads E → List E → List (Bracketed E)
bracketed_of reads events = bracketed_with reads (bracket_read reads) None events

-- a reading of bracketed events, turned into a reading of the plain events of a whole thread
abbrev pub as_bracketed : {E Y : Type 0} → Reads E → (List (Bracketed E) → Bracketed E → List (Bracketed E) → Option Y)
    → List E → E → List E → Option Y
as_bracketed reads read before event later =
    let mark = fold (mark_after reads) None before in
    read (bracketed_of reads before)
    (record { event = event; before = mark; bracket = bracket_read reads mark event })
    (bracketed_with reads (bracket_read reads) (mark_after reads mark event) later)

-- the sides of these events: whether each opens a call, closes one or does neither
abbrev pub sides_of : {E : Type 0} → List (Bracketed E) → List Side
sides_of bracketed = map (λ found. side_of found.bracket) bracketed

-- the verdict of a call by the event that closes it; their brackets are read without a mark before them, since a mark
-- can only turn an error reply from a closer into a refused send
abbrev pub verdict_read : {E : Type 0} → Reads E → E → E → Verdict
verdict_read reads call answer = verdict_of (bracket_read reads None call) (bracket_read reads None answer)

-- the call that an event opens, with nothing to close it
abbrev pub open_call : {E : Type 0} → E → Opener E
open_call event = record { event = event; verdict = Open; closer = None }

-- the call that an event opens, with the verdict and the place of its closer, or open if it has none
abbrev pub opener_by : {E : Type 0} → Reads E → E → Option (Bracketed E) → Opener E
opener_by reads call None = open_call call
opener_by reads call (Some answer) = record {
  event = call;
  verdict = verdict_read reads call answer.event;
  closer = Some (reads.place answer.event);
}

-- how many calls are open after a record, given how many were open before it
abbrev pub open_after : ℕ → Side → ℕ
open_after n opener = n + 1
open_after n closer = n - 1
open_after n neither = n

-- how many of the calls that these events open are still open after them
abbrev pub open_count : {E : Type 0} → List (Bracketed E) → ℕ
open_count bracketed = fold open_after 0 (sides_of bracketed)

-- whether an event is a closer, and none of the calls that the events before it open is still open there
abbrev pub is_unmatched : {E : Type 0} → List (Bracketed E) → Bracketed E → List (Bracketed E) → Bool
is_unmatched before found later = is_closer (side_of found.bracket) && (open_count before == 0)

-- the closers that close none of the calls that these events open
abbrev pub unmatched_closers : {E : Type 0} → List (Bracketed E) → List (Bracketed E)
unmatched_closers bracketed = read_all (chosen is_unmatched) bracketed

-- the call that an event opens, if it opens one: its closer is the first one after it that closes none of the calls
-- that open in between
abbrev pub opener_read : {E : Type 0} → Reads E → List (Bracketed E) → Bracketed E → List (Bracketed E) → Option (Opener E)
opener_read reads before found later =
    if is_opener (side_of found.bracket)
    then Some (opener_by reads found.event (slice_get (unmatched_closers later) 0))
    else None

-- the calls that these events open, in their order
abbrev pub openers_in : {E : Type 0} → Reads E → List (Bracketed E) → List (Opener E)
openers_in reads bracketed = read_all (opener_read reads) bracketed

-- the event, if it is a closer that closes none of the calls before it
abbrev pub stray_read : {E : Type 0} → List (Bracketed E) → Bracketed E → List (Bracketed E) → Option E
stray_read before found later = if is_unmatched before found later then Some found.event else None

-- the strays, in their order: the closers that close no opener
abbrev pub strays_in : {E : Type 0} → List (Bracketed E) → List E
strays_in bracketed = read_all stray_read bracketed

-- whether a bracket is an error reply that reports a refused send
abbrev pub is_refused : Bracket → Bool
is_refused Refused = true
is_refused _ = false

-- whether the latest mark is a oneway transaction that the thread sent
abbrev pub is_oneway_mark : Option Mark → Bool
is_oneway_mark (Some Oneway) = true
is_oneway_mark _ = false

-- the refused send that an event reports, if any, and whether a oneway transaction was refused
abbrev pub refused_send : {E : Type 0} → Bracketed E → Option (RefusedSend E)
refused_send found =
    if is_refused found.bracket
    then Some (record { event = found.event; oneway = is_oneway_mark found.before })
    else None

-- the refused sends, in their order
abbrev pub refused_of : {E : Type 0} → List (Bracketed E) → List (RefusedSend E)
refused_of bracketed = filter_map refused_send bracketed

-- the place of an opener
abbrev pub opener_place : {E : Type 0} → Reads E → Opener E → ℕ
opener_place reads found = reads.place found.event

-- the calls whose verdict passes a test
abbrev pub with_verdict : {E : Type 0} → (Verdict → Bool) → List (Opener E) → List (Opener E)
with_verdict test calls = filter (λ call. test call.verdict) calls

-- how many calls have a verdict that passes a test
abbrev pub how_many : {E : Type 0} → (Verdict → Bool) → List (Opener E) → ℕ
how_many test calls = count_by (λ call. test call.verdict) calls

-- the calls that are kept: all of them, or only those that lack their reply
abbrev pub kept_of : {E : Type 0} → Bool → List (Opener E) → List (Opener E)
kept_of true calls = calls
kept_of false calls = with_verdict lacks_reply calls

-- the calls of a whole thread, in the order of their openers
abbrev pub openers_of : {E : Type 0} → Reads E → List E → List (Opener E)
openers_of reads events = openers_in reads (bracketed_of reads events)

-- what is found of a whole thread: the calls that are kept, how many calls are answered and how many replied, the
-- strays and the refused sends; each list is in the order of the events and has nothing else
pub record AreFindings {E : Type 0} (reads : Reads E) (all_kept : Bool) (events : List E) (findings : CallFindings E) : Type 0 where
  pub kept : findings.openers.items ≡ kept_of all_kept (openers_of reads events)
  pub answered : findings.answered ≡ how_many is_answered (openers_of reads events)
  pub replied : findings.replied ≡ how_many is_replied (openers_of reads events)
  pub strays : findings.strays.items ≡ strays_in (bracketed_of reads events)
  pub refused : findings.refused.items ≡ refused_of (bracketed_of reads events)

-- ---- the two forms of events

-- what is read of an event of the capture
abbrev pub capture_event_reads : Reads Event
capture_event_reads = record {
  place = λ event. event.place;
  kind = λ event. event.kind;
  oneway = λ event. is_oneway event.kind event.payload.now;
}

-- an event, reduced to what decides the calls of its thread
abbrev pub call_event : Event → CallEvent
call_event event = record { place = event.place; kind = event.kind; oneway = is_oneway event.kind event.payload.now }

-- the place of a reduced event
abbrev pub event_place : CallEvent → ℕ
event_place event = event.place

-- what is read of a reduced event: its fields
abbrev pub event_reads : Reads CallEvent
event_reads = record { place = event_place; kind = λ event. event.kind; oneway = λ event. event.oneway }

-- ---- a piece of a thread's events

-- the latest mark that these events leave, if any
abbrev pub last_mark : {E : Type 0} → Reads E → List E → Option Mark
last_mark reads events = fold (mark_after reads) None events

-- whether a bracket is an error reply that closes a call
abbrev pub is_error : Bracket → Bool
is_error Error = true
is_error _ = false

-- the bracket of an event in a piece of a thread: an error reply that is the first mark of the piece is undecided, and
-- neither opens nor closes a call
abbrev pub bracket_in_piece : {E : Type 0} → Reads E → Option Mark → E → Bracket
bracket_in_piece reads None event = if is_error (bracket_read reads None event) then Neither else bracket_read reads None event
bracket_in_piece reads (Some mark) event = bracket_read reads (Some mark) event

-- the events of a piece of a thread, bracketed
abbrev pub bracketed_piece : {E : Type 0} → Reads E → List E → List (Bracketed E)
bracketed_piece reads events = bracketed_with reads (bracket_in_piece reads) None events

-- the event, if it is an error reply
abbrev pub if_error_reply : {E : Type 0} → Reads E → E → Option E
if_error_reply reads event = if is_error (bracket_read reads None event) then Some event else None

-- the undecided error reply of a piece: the first event that leaves a mark, if that is an error reply
abbrev pub undecided_of : {E : Type 0} → Reads E → List E → Option E
undecided_of reads events = option_and_then (if_error_reply reads) (find (λ event. is_some (mark_read reads event)) events)

-- the calls of a piece of a thread
abbrev pub openers_in_piece : {E : Type 0} → Reads E → List E → List (Opener E)
openers_in_piece reads events = openers_in reads (bracketed_piece reads events)

-- The value sums the events of a piece of a thread. It has the latest mark and the undecided error reply; the calls
-- that nothing closes in the piece, in their order; of the closed calls those that are kept, in any order; how many are
-- answered and how many replied; the strays and the refused sends, in their order.
pub record CallsSum {E : Type 0} (reads : Reads E) (all_kept : Bool) (calls : Calls E) (events : List E) : Type 0 where
  pub placed : IsPlaced reads.place events
  pub last : calls.last ≡ last_mark reads events
  pub undecided : calls.undecided ≡ undecided_of reads events
  pub unmatched : map open_call calls.unmatched.items ≡ with_verdict is_open (openers_in_piece reads events)
  pub closed : IsPermutation (kept_of all_kept (with_verdict is_closed (openers_in_piece reads events))) calls.closed.items
  pub answered : calls.answered ≡ how_many is_answered (openers_in_piece reads events)
  pub replied : calls.replied ≡ how_many is_replied (openers_in_piece reads events)
  pub strays : calls.strays.items ≡ strays_in (bracketed_piece reads events)
  pub refused : calls.refused.items ≡ refused_of (bracketed_piece reads events)

-- for whatever events the value sums, taken as a whole thread, these are the findings
abbrev pub GivesFindings : {E : Type 0} → Reads E → Bool → Calls E → CallFindings E → Type 0
GivesFindings {E} reads all_kept calls findings =
    (events : List E) → CallsSum reads all_kept calls events → AreFindings reads all_kept events findings

-- for whatever events the value sums, taken as a whole thread, these open the calls that nothing closes, in their order
abbrev pub GivesOpen : {E : Type 0} → Reads E → Bool → Calls E → List E → Type 0
GivesOpen {E} reads all_kept calls openers =
    (events : List E) → CallsSum reads all_kept calls events
    → map open_call openers ≡ with_verdict is_open (openers_of reads events)
