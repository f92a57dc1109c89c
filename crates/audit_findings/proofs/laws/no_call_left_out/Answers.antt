use Rattle.event_core.specs.Events.{events_of_frames}
use Rattle.audit_findings.proofs.CallsTold.{made_told, served_told}
use Rattle.audit_findings.proofs.laws.no_call_left_out.Goals as goal

pub returns : goal.returns
returns c frames = (made_told (events_of_frames frames), served_told (events_of_frames frames))
