use Rattle.std.proofs.Common.{◌≡◌, List, ◌++◌, length, map}
use Rattle.capture_frame.specs.Envelope.{placed_frame}
use Rattle.event_core.specs.declared.event.Event.{Event}
use Rattle.event_core.specs.Events.{events_of}
use Rattle.event_core.specs.Reading.{event_text}
use Rattle.audit_findings.specs.Ledgers.{AreFewEvents, SumsGiven}
use Rattle.audit_findings.proofs.GivenLaws.{AreGiven}
use Rattle.audit_findings.proofs.piece_summary.PieceSummary.take.Given as goal

-- the reader has given these events, and the sums have them too; the sequences and the processes stay
abbrev pub invariant-loop-event : goal.invariant-loop-event
invariant-loop-event l =
    (l.self.sequences ≡ l.initial.self.sequences) × (l.self.order ≡ l.initial.self.order)
    × (given : List Event) × AreGiven (placed_frame l.fn.frame) given l.events
    × ((before : List Event) → SumsGiven l.initial.self.of_events before
    → AreFewEvents (map event_text before ++ events_of (placed_frame l.fn.frame)) → SumsGiven l.self.of_events (before ++ given))

abbrev pub decreases-loop-event : goal.decreases-loop-event
decreases-loop-event l = length l.events
