-- What is pushed while a report is made. No public clause names these definitions.
use Rattle.capture_frame.specs.Envelope.{PlacedFrame}
use Rattle.std.specs.Prelude.{◌≡◌, ℕ, Bool, IsTrue, List, All, Contains}
use Rattle.std.specs.List.{AllZip, FoldsTo}
use Rattle.binder_code.specs.declared.record_kind.Kind.{Kind}
use Rattle.event_core.specs.Events.{EventRead, events_of_frames}
use Rattle.audit_findings.specs.Findings.{findings_of}
use Rattle.audit_findings.specs.Lookup.{HasRecordIn}
use Rattle.report_text.specs.Section.{SectionText}

-- the line is what `line_of` makes of the event at this place of the frames
abbrev pub ShowsEvent : (EventRead → List ℕ) → List PlacedFrame → ℕ → List ℕ → Type 0
ShowsEvent line_of frames place line =
    (e : EventRead) → Contains (events_of_frames frames) e → e.place ≡ place → line ≡ line_of e

-- lines were taken, one after another, that show the rows of which this is kept
abbrev pub TakesRows : {L K : Type 0} → (L → List ℕ → L → Type 0) → (K → List ℕ → Type 0) → List K → L → L → Type 0
TakesRows takes shows kept old new =
    (shown : List (List ℕ)) × AllZip shows kept shown × FoldsTo takes old shown new

-- these lines were taken, one after another
pub record TakesLines {L : Type 0} (takes : L → List ℕ → L → Type 0) (lines : List (List ℕ)) (old new : L) :
    Type 0 where
  pub taken : FoldsTo takes old lines new

-- an event of the frames is at this place, and its record is of one of these kinds
pub record HasRowAt (kinds : Kind → Bool) (frames : List PlacedFrame) (place : ℕ) : Type 0 where
  pub event : EventRead
  pub inside : Contains (events_of_frames frames) event
  pub there : event.place ≡ place
  pub kind : IsTrue (kinds event.kind)

-- a record of the frames begins at this place, and it is of one of these kinds
abbrev pub IsRowAt : (Kind → Bool) → List PlacedFrame → ℕ → Type 0
IsRowAt kinds frames place = HasRecordIn frames place × HasRowAt kinds frames place

-- the owner of each row of the section is an event of the frames, and its record is of one of these kinds
abbrev pub HaveEvents : {R : Type 0} → SectionText R → (R → EventRead) → (Kind → Bool) → Type 0
HaveEvents section owner kinds =
    (frames : List PlacedFrame)
    → All (λ row. Contains (events_of_frames frames) (owner row) × IsTrue (kinds (owner row).kind))
    (section.rows (findings_of frames))
