-- The record of a frame that leaves a mark, or does not.
use Rattle.std.proofs.Common.{◌≡◌, true, false, [], ◌∷◌, is_some, refl, sym, ap, ◌∙◌}
use Rattle.binder_code.proofs.WordKinds.{kind_of_word-is}
use Rattle.binder_code.specs.Commands.{kind_of_word, protocol_of_word}
use Rattle.capture_frame.specs.Envelope.{PlacedFrame}
use Rattle.event_core.specs.Brackets.{is_oneway, mark_of}
use Rattle.listing_fields.specs.Frames.{thread_of}
use Rattle.record_view.specs.declared.record.Record.{Record}
use Rattle.record_view.specs.State.{placed_record}
use Rattle.capture_frame.specs.declared.process.Thread.{Thread}
use Rattle.listing_tables.specs.declared.calls.CallStep.{CallStep}
use Rattle.listing_tables.specs.Steps.{kept_of, marked_of}

-- the kind of a record is what its code word means
pub kind_is : (r : Record) → kind_of_word r.code.0 ≡ r.kind
kind_is r = kind_of_word-is (protocol_of_word r.code.0) r.code.0 r.kind r.by_code

-- a record that leaves no mark
pub is_unmarked : (frame : PlacedFrame) (r : Record) → is_some (mark_of r.kind (is_oneway r.kind r.payload.now)) ≡ false
    → marked_of frame (placed_record r) ≡ []
is_unmarked frame r none = rw (kind_is r, none) refl

-- a record that leaves a mark
pub is_marked : (frame : PlacedFrame) (r : Record) → is_some (mark_of r.kind (is_oneway r.kind r.payload.now)) ≡ true
    → marked_of frame (placed_record r)
    ≡ record { thread = thread_of frame; place = r.place; kind = r.kind; oneway = is_oneway r.kind r.payload.now } ∷ []
is_marked frame r some = rw (kind_is r, some) refl

-- what is kept of a record that leaves a mark
pub kept_is : (frame : PlacedFrame) (r : Record) (thread : Thread) (step : CallStep) → thread ≡ thread_of frame → step.place ≡ r.place
    → step.kind ≡ r.kind → step.oneway ≡ is_oneway r.kind r.payload.now → is_some (mark_of r.kind step.oneway) ≡ true
    → kept_of (thread, step) ∷ [] ≡ marked_of frame (placed_record r)
kept_is frame r thread step of at kind oneway some =
    rw (of, at, kind, oneway) (sym (is_marked frame r (ap (λ o. is_some (mark_of r.kind o)) (sym oneway) ∙ some)))
