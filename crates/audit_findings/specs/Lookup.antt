-- The record at a place of the capture.
use Rattle.std.specs.Prelude.{◌≡◌, ℕ, List, Contains, None}
use Rattle.capture_frame.specs.Envelope.{PlacedFrame}
use Rattle.event_core.specs.declared.event.Event.{Event}
use Rattle.event_core.specs.Events.{EventRead, HasRecordAt, events_of_frames}
use Rattle.event_core.specs.Reading.{event_text}

-- a record of one of these frames begins at this place
abbrev pub HasRecordIn : List PlacedFrame → ℕ → Type 0
HasRecordIn frames place = (frame : PlacedFrame) × Contains frames frame × HasRecordAt frame place

-- the event that was found is the one at this place of these frames, with its attachment left out
abbrev pub SaysEventAt : List PlacedFrame → ℕ → Event → Type 0
SaysEventAt frames place found =
    (e : EventRead) → Contains (events_of_frames frames) e → e.place ≡ place
    → event_text found ≡ record e { entry = None }
