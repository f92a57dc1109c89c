use Rattle.std.proofs.Common.{◌≡◌, length, ap, ◌∙◌, rules}
use Rattle.event_core.specs.Events.{events_of_frames}
use Rattle.process_ledgers.specs.Processes.{processes_of}
use Rattle.audit_findings.specs.Buffers.{is_leaked}
use Rattle.audit_findings.specs.Places.{places_in}
use Rattle.audit_findings.proofs.HandleRows.{each_long}
use Rattle.audit_findings.proofs.second_look.SecondLook.process_count.Goals as goal

pub returns : goal.returns
returns c =
    let look = c.self.inside in
    let frames = look.frames.now in
    let long : c.len.result ≡ length look.unfreed.items = search rules in
    long ∙ each_long (places_in is_leaked (events_of_frames frames)) (processes_of frames) look.unfreed.items c.self.invariant.2
    ∙ ap (λ fs. length (processes_of fs)) c.self.view_is
