use Rattle.std.proofs.Common.{rules}
use Rattle.event_core.proofs.handle.handle_effect.Goals as goal

pub returns-in-BcAcquire : goal.returns-in-BcAcquire
returns-in-BcAcquire c = search rules
