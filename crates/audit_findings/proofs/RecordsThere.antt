-- Each event of frames is of a record of one of them.
use Rattle.std.proofs.Common.{◌≡◌, ℕ, List, refl, sym, ap, subst, arith}
use Rattle.std.specs.Prelude.{All, Contains}
use Rattle.std.proofs.lemmas.List.Elements.{All-contains, All-contains_itself, All-map, All-weaker}
use Rattle.capture_frame.specs.Envelope.{PlacedFrame}
use Rattle.capture_frame.specs.Lookup.{Holds}
use Rattle.capture_frame.specs.Units.{Placed, placed_at}
use Rattle.record_view.specs.Records.{RecordText, records_of}
use Rattle.event_core.specs.Events.{EventRead, HasRecordAt, event_of, events_of, events_of_frames}
use Rattle.event_core.proofs.FrameEvents.{events_within}
use Rattle.summary_law.proofs.Members.{contained, in_list, map-in}
use Rattle.audit_findings.specs.Lookup.{HasRecordIn}
use Rattle.audit_findings.proofs.FrameLaws.{IsWithin}
use Rattle.audit_findings.proofs.Rising.{all_flat}

-- the event is that of a record of one of these frames
pub record IsEventIn (frames : List PlacedFrame) (e : EventRead) : Type 0 where
  pub frame : PlacedFrame
  pub there : Contains frames frame
  pub found : Placed RecordText
  pub inside : Contains (records_of frame).units found
  pub is : e ≡ event_of frame found

pub events_in : (frames : List PlacedFrame) → All (IsEventIn frames) (events_of_frames frames)
events_in frames =
    all_flat (IsEventIn frames) events_of frames
    (All-weaker (Contains frames) (λ frame. All (IsEventIn frames) (events_of frame))
    (λ frame there.
    let records = (records_of frame).units in
    All-map (IsEventIn frames) (event_of frame) records
    (All-weaker (Contains records) (λ r. IsEventIn frames (event_of frame r))
    (λ r inside. record { frame = frame; there = there; found = r; inside = inside; is = refl }) records (All-contains_itself records)))
    frames (All-contains_itself frames))

-- so a record begins at its place
pub has_record_in : (frames : List PlacedFrame) (e : EventRead) → Contains (events_of_frames frames) e → HasRecordIn frames e.place
has_record_in frames e there =
    let is = All-contains (IsEventIn frames) (events_of_frames frames) e (events_in frames) there in
    (is.frame, is.there, subst (HasRecordAt is.frame) (sym (ap (λ (x : EventRead). x.place) is.is)) (is.found.unit, is.inside))

-- the frame of a record holds its place
pub record_held : (frame : PlacedFrame) (place : ℕ) → HasRecordAt frame place → Holds place frame
record_held frame place has =
    let found = placed_at place has.0 in
    let e = event_of frame found in
    let inside = map-in (event_of frame) (records_of frame).units found (in_list (records_of frame).units found has.1) in
    let within = All-contains (IsWithin frame) (events_of frame) e (events_within frame) (contained (events_of frame) e inside) in
    let from = within.0 in
    let to = within.1 in
    (omega (arith, from), omega (arith, to))
