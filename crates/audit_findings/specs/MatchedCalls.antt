-- The calls of a capture, by the closer of their thread that matches each opener (docs/REPORT.md). By a law, the
-- findings say the same.
use Rattle.std.specs.Prelude.{◌≡◌, ℕ, List, filter, slice_get, Some, Ok}
use Rattle.call_stacks.specs.Calls.{Bracketed, bracketed_of, is_oneway_mark, opener_place}
use Rattle.call_stacks.specs.Matched.{IsOpener, IsStrayEvent}
use Rattle.call_stacks.specs.declared.findings.RefusedSend.{RefusedSend}
use Rattle.call_stacks.specs.declared.opener.Opener.{Opener}
use Rattle.capture_frame.specs.Envelope.{PlacedFrame}
use Rattle.event_core.specs.Events.{EventRead, events_of_frames, thread_of}
use Rattle.event_core.specs.declared.marks.Bracket.TheVariants.{Refused}
use Rattle.summary_law.specs.Ranked.{ListsInOrder}
use Rattle.transaction_view.specs.Grammar.{frames_of_parts}
use Rattle.audit_findings.specs.Calls.{calls_of, is_made, is_served, refused_of, served_of}
use Rattle.audit_findings.specs.Findings.{findings_of}
use Rattle.audit_findings.specs.Places.{RiseInPlace}
use Rattle.audit_findings.specs.TextReads.{text_reads}
use Rattle.audit_findings.specs.Threads.{events_in_thread}
use Rattle.audit_findings.specs.declared.call_sections.CallSections.{CallSections}

-- the events of this event's thread, in their order, each bracketed by the latest mark before it there
abbrev pub bracketed_beside : List EventRead → EventRead → List (Bracketed EventRead)
bracketed_beside events e = bracketed_of text_reads (events_in_thread (thread_of e) events)

-- the call is one of the openers of its thread, with its verdict and its closer by matching
abbrev pub IsCallOf : List EventRead → Opener EventRead → Type 0
IsCallOf events call = IsOpener text_reads (bracketed_beside events call.event) call

-- the event is one of the closers of its thread, and no opener matches it
abbrev pub IsStrayOf : List EventRead → EventRead → Type 0
IsStrayOf events e = IsStrayEvent (bracketed_beside events e) e

-- the send is one that an error reply of its thread reports as refused; it is oneway if the latest mark before is
pub record IsRefusedOf (events : List EventRead) (send : RefusedSend EventRead) : Type 0 where
  pub position : ℕ
  pub there : Bracketed EventRead
  pub is_at : slice_get (bracketed_beside events send.event) position ≡ Some there
  pub refused : there.bracket ≡ Refused
  pub event : send.event ≡ there.event
  pub oneway : send.oneway ≡ is_oneway_mark there.before

-- The sections are those of the matched calls of all threads: all openers, with their verdicts, are counted and listed
-- in rising place; so are the refused sends; the strays are the closers that no opener matches, in rising place. The
-- lists have nothing else.
pub record AreMatchedCalls (events : List EventRead) (sections : CallSections EventRead) : Type 0 where
  pub openers : List (Opener EventRead)
  pub openers_are : ListsInOrder (opener_place text_reads) (IsCallOf events) openers
  pub calls : sections.calls ≡ calls_of (filter is_made openers)
  pub served : sections.served ≡ served_of (filter is_served openers)
  pub strays : ListsInOrder (λ e. e.place) (IsStrayOf events) sections.strays
  pub sends : List (RefusedSend EventRead)
  pub sends_are : ListsInOrder (λ s. s.event.place) (IsRefusedOf events) sends
  pub refused : sections.refused ≡ refused_of sends

-- in a capture in the grammar, the events rise strictly in place
abbrev pub EventsRise : Type 0
EventsRise = (parts : List (List ℕ)) (frames : List PlacedFrame) → frames_of_parts parts ≡ Ok frames
    → RiseInPlace (events_of_frames frames)

-- in a capture in the grammar, what the findings say of the calls of all threads is what matching says
abbrev pub HaveMatchedCalls : Type 0
HaveMatchedCalls = (parts : List (List ℕ)) (frames : List PlacedFrame) → frames_of_parts parts ≡ Ok frames
    → AreMatchedCalls (events_of_frames frames) (findings_of frames).calls
