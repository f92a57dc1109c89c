-- The events of a capture rise strictly in place, and so do the rows that are made of them.
use Rattle.std.proofs.Common.{◌≡◌, ℕ, List, map, Option, Some, None, refl, subst}
use Rattle.std.specs.Prelude.{Ok}
use Rattle.std.specs.Prelude.{AllPairs}
use Rattle.std.specs.List.Sorted.{IsStrictlyIncreasing}
use Rattle.capture_frame.specs.Envelope.{FrameText, PlacedFrame, file_header_length, frame_width}
use Rattle.capture_frame.specs.Lookup.{AreApart}
use Rattle.capture_frame.specs.Parts.{joined_frames}
use Rattle.capture_frame.specs.declared.fault.PartFault.{PartFault}
use Rattle.object_view.specs.declared.bad_object.BadObject.{BadObject}
use Rattle.transaction_view.specs.Grammar.{frames_of_parts, unless, wholes_of}
use Rattle.event_core.specs.Events.{EventRead, events_of_frames}
use Rattle.process_ledgers.proofs.ItemPlaces.{made_there}
use Rattle.audit_findings.specs.Flags.{has_unknown_flags, flagged}
use Rattle.audit_findings.specs.Objects.{objects_in, bad_of, bad_objects}
use Rattle.audit_findings.specs.Places.{RiseInPlace}
use Rattle.audit_findings.specs.declared.objects.BadRow.{BadRow}
use Rattle.capture_frame.proofs.ReadOnLaws.{placed_apart}
use Rattle.summary_law.proofs.ReadLaws.{rising_read}
use Rattle.audit_findings.proofs.FrameLaws.{frames_rise}
use Rattle.audit_findings.proofs.Rising.{rising_kept, increasing_places}

-- the frames of a capture are apart
pub joined_apart : (frames : List FrameText) → AllPairs AreApart (joined_frames frames)
joined_apart frames = placed_apart frame_width file_header_length frames

unless_apart : (fault : Option PartFault) (made frames : List PlacedFrame) → unless fault made ≡ Ok frames → AllPairs AreApart made → AllPairs AreApart frames
unless_apart None made frames is apart = let same : made ≡ frames = cc in subst (AllPairs AreApart) same apart
unless_apart (Some fault) made frames is apart = let no : ⊥ = cc in absurd no

pub events_rise : (parts : List (List ℕ)) (frames : List PlacedFrame) → frames_of_parts parts ≡ Ok frames → RiseInPlace (events_of_frames frames)
events_rise parts frames is =
    frames_rise frames (unless_apart (wholes_of parts).fault (joined_frames (wholes_of parts).frames) frames is (joined_apart (wholes_of parts).frames))

-- ---- the rows of a capture

pub flags_rise : (parts : List (List ℕ)) (frames : List PlacedFrame) → frames_of_parts parts ≡ Ok frames
    → IsStrictlyIncreasing (map (λ (e : EventRead). e.place) (flagged (events_of_frames frames)))
flags_rise parts frames is =
    let place : EventRead → ℕ = λ e. e.place in
    let events = events_of_frames frames in
    increasing_places place (flagged events) (rising_kept place has_unknown_flags events (events_rise parts frames is))

pub objects_rise : (parts : List (List ℕ)) (frames : List PlacedFrame) → frames_of_parts parts ≡ Ok frames
    → IsStrictlyIncreasing (map (λ (b : BadRow EventRead). b.owner.place) (bad_objects (events_of_frames frames)))
objects_rise parts frames is =
    let events = events_of_frames frames in
    let place : BadRow EventRead → ℕ = λ b. b.owner.place in
    increasing_places place (bad_objects events)
    (rising_read bad_of place (λ (e : EventRead). e.place)
    (λ e b made. made_there place (λ (x : BadObject). record { owner = e; bad = x }) e.place (λ x. refl) (objects_in e).bad b made)
    events (events_rise parts frames is))
