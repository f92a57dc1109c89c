-- A reader of events, and what one call of it does.
use Rattle.std.specs.Prelude.{◌≡◌, ℕ, List, [], ◌∷◌, Option, Some, None}
use Rattle.std.specs.Option.{option_map}
use Rattle.capture_frame.specs.Calls.{GiveInOrder}
use Rattle.capture_frame.specs.Envelope.{PlacedFrame}
use Rattle.transaction_view.specs.State.{placed_entry}
use Rattle.event_core.specs.declared.event.Event.{Event}
use Rattle.event_core.specs.Events.{EventRead, events_of, event_at_place}

-- what an event that was read says
abbrev pub event_text : Event → EventRead
event_text found = record {
  place = found.place;
  device = found.device;
  process = found.process;
  thread = found.thread;
  kind = found.kind;
  code = found.code.0;
  payload = found.payload.now;
  entry = option_map placed_entry found.entry;
}

-- One call of a reader. It gives the first event ahead, and the others are left ahead; at the end it gives `None`.
abbrev pub Steps : List EventRead → Option Event → List EventRead → Type 0
Steps ahead (Some found) new = ahead ≡ event_text found ∷ new
Steps ahead None new = (ahead ≡ []) × (new ≡ [])

-- the call gives this event
abbrev pub GivesEvent : Option Event → EventRead → Type 0
GivesEvent result e = option_map event_text result ≡ Some e

-- the calls give these events, one by one, and then `None` at every later call
abbrev pub GiveEvents : List EventRead → List (Option Event) → Type 0
GiveEvents events results = GiveInOrder GivesEvent None None events results

-- the event of the frame at this place of the capture, or None if no event of the frame is there
abbrev pub IsEventAt : PlacedFrame → ℕ → Option Event → Type 0
IsEventAt frame place result = option_map event_text result ≡ event_at_place place (events_of frame)
