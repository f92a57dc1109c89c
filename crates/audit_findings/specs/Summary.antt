-- What a summary of frames keeps, and what it gives.
use Rattle.std.specs.Prelude.{◌≡◌, List, [], ◌∷◌, ◌++◌, map}
use Rattle.capture_frame.specs.Envelope.{PlacedFrame}
use Rattle.capture_frame.specs.declared.process.Process.{Process}
use Rattle.event_core.specs.Events.{events_of_frames}
use Rattle.event_core.specs.Reading.{event_text}
use Rattle.event_core.specs.declared.event.Event.{Event}
use Rattle.process_ledgers.specs.Processes.{process_of_placed}
use Rattle.audit_findings.specs.EachProcess.{SumsOrder}
use Rattle.audit_findings.specs.Ledgers.{SumsFrames, SumsGiven}
use Rattle.audit_findings.specs.declared.piece_summary.PieceSummary.{PieceSummary}

-- the summary sums these frames: their sequences, their processes in order, and all their events
pub record SumsPiece (summary : PieceSummary) (frames : List PlacedFrame) : Type 0 where
  pub sequences : SumsFrames summary.sequences frames
  pub order : SumsOrder summary.order.entries.entries frames
  pub given : List Event
  pub are_all : map event_text given ≡ events_of_frames frames
  pub sums : SumsGiven summary.of_events given

-- the summary sums some frames
abbrev pub SumsSome : PieceSummary → Type 0
SumsSome summary = (frames : List PlacedFrame) × SumsPiece summary frames

-- the new summary is the old one, except that the order has the process of the next frame too
pub record NamesProcess (old : PieceSummary) (process : Process) (new : PieceSummary) : Type 0 where
  pub sequences : new.sequences ≡ old.sequences
  pub order : (frames : List PlacedFrame) (next : PlacedFrame) → SumsPiece old frames
      → process ≡ process_of_placed next → SumsOrder new.order.entries.entries (frames ++ next ∷ [])
  pub sums : (events : List Event) → SumsGiven old.of_events events → SumsGiven new.of_events events
