use Rattle.std.proofs.Common.{ap, sym, ◌∙◌, ◌+◌, ℕ, rules}
use Rattle.std.proofs.lemmas.List.{take_rest}
use Rattle.capture_frame.specs.Envelope.{in_version, frame_text}
use Rattle.capture_frame.specs.Frames.{frame_parser}
use Rattle.capture_frame.specs.State.{ahead_of, IsFrameView}
use Rattle.capture_frame.specs.Tests.{at_place, fault_at}
use Rattle.capture_frame.specs.Units.{placed_at}
use Rattle.capture_frame.proofs.FrameLaws.{frame_widths}
use Rattle.capture_frame.proofs.ReadOnLaws.{gives_unit, gives_fault, stays_within}
use Rattle.capture_frame.proofs.frames.Frames.next_frame.Goals as goal

pub invariant_of-self : goal.invariant_of-self
invariant_of-self c =
    let self = c.self.inside in
    let offset = c.in-At.offset in (
      stays_within frame_parser frame_widths IsFrameView (in_version self.version c.in-At.last) self.start offset self.bytes.now _
          (take_rest self.bytes.now offset) (frame_text c.in-Ok.frame) (search rules) (ap (at_place (self.start + offset)) c.in-Ok.ensures.0),
      search rules,
    )

pub returns-in-Ok : goal.returns-in-Ok
returns-in-Ok c =
    let self = c.self.inside in
    let offset = c.in-At.offset in
    let frame = c.in-Ok.frame in
    let gives = gives_unit frame_parser frame_widths IsFrameView (in_version self.version c.in-At.last) self.start offset self.bytes.now _
    (take_rest self.bytes.now offset) (frame_text frame) frame (search rules) (ap (at_place (self.start + offset)) c.in-Ok.ensures.0)
    (ap (λ (p : ℕ). placed_at p (frame_text frame)) c.in-Ok.ensures.1) in
    (gives.0, gives.1, sym c.self.view_is ∙ ap (ahead_of self.version self.bytes.now self.start) c.in-At.is ∙ gives.2)

pub returns-in-Err : goal.returns-in-Err
returns-in-Err c =
    let self = c.self.inside in
    let offset = c.in-At.offset in
    let gives = gives_fault frame_parser frame_widths IsFrameView (in_version self.version c.in-At.last) self.start offset self.bytes.now _
    (take_rest self.bytes.now offset) (fault_at c.in-Err.kind (self.start + offset)) (search rules) (ap (at_place (self.start + offset)) c.in-Err.ensures) in
    (sym c.self.view_is ∙ ap (ahead_of self.version self.bytes.now self.start) c.in-At.is ∙ gives.0, gives.1)
