-- The threads of a capture (docs/REPORT.md).
use Rattle.std.specs.Prelude.{List, Option}
use Rattle.capture_frame.specs.Process.{same_thread}
use Rattle.capture_frame.specs.declared.process.Thread.{Thread}
use Rattle.call_stacks.specs.Calls.{Bracketed, as_bracketed}
use Rattle.event_core.specs.Events.{EventRead, thread_of}
use Rattle.summary_law.specs.Readings.{by_key, read_all, with_key}
use Rattle.audit_findings.specs.TextReads.{text_reads}

-- the events of this thread, in their order
abbrev pub events_in_thread : Thread → List EventRead → List EventRead
events_in_thread thread events = with_key same_thread thread_of thread events

-- what is read of the events of each thread, where each event is bracketed by the latest mark before it in its thread
abbrev pub in_threads : {Y : Type 0} → (List (Bracketed EventRead) → Bracketed EventRead → List (Bracketed EventRead) → Option Y)
    → List EventRead → List Y
in_threads read events = read_all (by_key same_thread thread_of (as_bracketed text_reads read)) events
