-- Laws of the definitions.
use Rattle.std.specs.Prelude.{◌≡◌, ℕ, ◌+◌, List, length, map, Ok}
use Rattle.std.specs.List.Sorted.{IsStrictlyIncreasing}
use Rattle.capture_frame.specs.Envelope.{PlacedFrame}
use Rattle.event_core.specs.Events.{EventRead}
use Rattle.transaction_view.specs.Grammar.{frames_of_parts}
use Rattle.audit_findings.specs.Findings.{findings_of}
use Rattle.audit_findings.specs.declared.calls.Calls.{Calls}
use Rattle.audit_findings.specs.declared.served.Served.{Served}

-- in a capture in the grammar, the records of the bad objects rise strictly in place
abbrev pub BadObjectsRise : Type 0
BadObjectsRise = (parts : List (List ℕ)) (frames : List PlacedFrame) → frames_of_parts parts ≡ Ok frames
    → IsStrictlyIncreasing (map (λ row. row.owner.place) (findings_of frames).events.bad_objects)

-- in a capture in the grammar, the records with unknown flags rise strictly in place
abbrev pub FlagsRise : Type 0
FlagsRise = (parts : List (List ℕ)) (frames : List PlacedFrame) → frames_of_parts parts ≡ Ok frames
    → IsStrictlyIncreasing (map (λ e. e.place) (findings_of frames).events.flags)

-- each call that threads make is counted once, as answered, failed or unanswered, and is listed unless it is answered
pub record AllMadeTold (calls : Calls EventRead) : Type 0 where
  pub counted : calls.all ≡ calls.answered + calls.failed + calls.unanswered
  pub listed : calls.all ≡ calls.answered + length calls.rows

-- each call that threads serve is counted once, as replied, crossed or open, and is listed unless it is replied
pub record AllServedTold (served : Served EventRead) : Type 0 where
  pub counted : served.all ≡ served.replied + served.crossed + served.left_open
  pub listed : served.all ≡ served.replied + length served.rows

-- the findings of any frames leave out no call
abbrev pub LeaveOutNoCall : Type 0
LeaveOutNoCall = (frames : List PlacedFrame)
    → AllMadeTold (findings_of frames).calls.calls × AllServedTold (findings_of frames).calls.served
