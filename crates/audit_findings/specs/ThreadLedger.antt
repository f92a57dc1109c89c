-- The ledger of the calls of all threads, while it is made.
use Rattle.std.specs.Prelude.{Bool, false, List, filter, is_some, map}
use Rattle.capture_frame.specs.Process.{same_thread}
use Rattle.capture_frame.specs.declared.process.Thread.{Thread}
use Rattle.event_core.specs.Brackets.{is_oneway}
use Rattle.event_core.specs.Events.{EventRead, thread_of}
use Rattle.call_stacks.specs.Calls.{CallsSum, event_reads, mark_read}
use Rattle.call_stacks.specs.declared.call_record.CallEvent.{CallEvent}
use Rattle.call_stacks.specs.declared.calls.Calls.{Calls}
use Rattle.summary_law.specs.Fits.{IsPlaced}
use Rattle.summary_law.specs.InOrder.{SumsInOrder}
use Rattle.audit_findings.specs.TextReads.{text_reads}
use Rattle.audit_findings.specs.declared.thread_ledger.ThreadLedger.{ThreadLedger}

-- what is kept of an event for the calls of its thread: its place, its kind, and whether it is a oneway transaction
abbrev pub text_call : EventRead → CallEvent
text_call e = record { place = e.place; kind = e.kind; oneway = is_oneway e.kind e.payload }

-- whether an event leaves a mark in its thread
abbrev pub leaves_mark : EventRead → Bool
leaves_mark e = is_some (mark_read text_reads e)

-- an event, as it is fed under its thread
abbrev pub fed_call : EventRead → Thread × CallEvent
fed_call e = (thread_of e, text_call e)

-- what is fed of these events: those that leave a mark, in order
abbrev pub fed_calls : List EventRead → List (Thread × CallEvent)
fed_calls events = map fed_call (filter leaves_mark events)

-- the entries have, for each thread with an event that leaves a mark and for no other thread, the calls of its events
-- that leave one
pub record SumsThreads (entries : List (Thread × Calls CallEvent)) (events : List EventRead) : Type 0 where
  pub placed : IsPlaced (λ e. e.place) events
  pub sums : SumsInOrder same_thread (CallsSum event_reads false) entries (fed_calls events)

-- the ledger has the calls of the threads of these events
abbrev pub SumsThreadCalls : ThreadLedger → List EventRead → Type 0
SumsThreadCalls ledger events = SumsThreads ledger.threads.entries.entries events
