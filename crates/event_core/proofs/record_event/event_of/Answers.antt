use Rattle.std.proofs.Common.{refl}
use Rattle.binder_code.proofs.WordKinds.{kind_of_meant}
use Rattle.event_core.proofs.record_event.event_of.Goals as goal

pub returns : goal.returns
returns c = rw (kind_of_meant c.args.carrier.code.0 c.args.carrier.kind c.args.carrier.by_code) refl
