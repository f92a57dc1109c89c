-- Rows that are events: those that pass a test among the events of their process (docs/REPORT.md). The test sees which
-- events come before this one in the process, and which come after it.
use Rattle.std.specs.Prelude.{ℕ, ◌||◌, Bool, false, List, length, map, Option, filter_map}
use Rattle.std.specs.Option.{option_map_or}
use Rattle.std.specs.Ordering.{eq_by_cmp, nat_cmp}
use Rattle.capture_frame.specs.Process.{same_process}
use Rattle.capture_frame.specs.declared.process.Process.{Process}
use Rattle.event_core.specs.Events.{EventRead, process_of}
use Rattle.event_core.specs.declared.pending.KeyEvent.{KeyEvent}
use Rattle.pending_ledger.specs.Pending.{is_unclosed_item, is_stray_item}
use Rattle.process_ledgers.specs.Processes.{events_in}
use Rattle.summary_law.specs.Fits.{PlacesRise}
use Rattle.summary_law.specs.Readings.{by_key, chosen, read_all}
use Rattle.audit_findings.specs.declared.open_and_stray.OpenAndStray.{OpenAndStray}

-- a test of an event, by the events before it and the events after it
abbrev pub EventTest : Type 0
EventTest = List EventRead → EventRead → List EventRead → Bool

-- the test that an event passes if it has an item, and the item passes this test among the items of the others
abbrev pub item_is : {I : Type 0} → (EventRead → Option I) → (List I → I → List I → Bool) → EventTest
item_is read test before e later =
    option_map_or (λ item. test (filter_map read before) item (filter_map read later)) (read e) false

-- the events of this process that pass the test among the events of the process, in order
abbrev pub passing_in : EventTest → Process → List EventRead → List EventRead
passing_in test process events = read_all (chosen test) (events_in process events)

-- the places of those events
abbrev pub places_in : EventTest → List EventRead → Process → List ℕ
places_in test events process = map (λ e. e.place) (passing_in test process events)

-- the events that pass the test among the events of their own process, in order
abbrev pub passing_events : EventTest → List EventRead → List EventRead
passing_events test events = read_all (by_key same_process process_of (chosen test)) events

-- whether the event is an open, and no later close has its key
abbrev pub is_unclosed : (EventRead → Option (ℕ × KeyEvent)) → EventTest
is_unclosed read = item_is read (is_unclosed_item (eq_by_cmp nat_cmp))

-- whether the event is a stray close: no earlier open or close has its key, or the latest one that has it is a close
abbrev pub is_stray_close : (EventRead → Option (ℕ × KeyEvent)) → EventTest
is_stray_close read = item_is read (is_stray_item (eq_by_cmp nat_cmp))

-- whether an event passes one test or the other
abbrev pub either : EventTest → EventTest → EventTest
either test other before e later = test before e later || other before e later

-- how many events are unclosed opens in their process, how many are stray closes there, and all of these events in
-- order
abbrev pub open_and_stray : (EventRead → Option (ℕ × KeyEvent)) → List EventRead → OpenAndStray EventRead
open_and_stray read events = record {
  unclosed = length (passing_events (is_unclosed read) events);
  strays = length (passing_events (is_stray_close read) events);
  rows = passing_events (either (is_unclosed read) (is_stray_close read)) events;
}

-- the places of these events rise
abbrev pub RiseInPlace : List EventRead → Type 0
RiseInPlace events = PlacesRise (λ e. e.place) events
