use Rattle.std.proofs.Common.{rules}
use Rattle.event_core.proofs.node.node_effect.Goals as goal

pub returns-in-BcAcquireDone : goal.returns-in-BcAcquireDone
returns-in-BcAcquireDone c = search rules
