use Rattle.std.proofs.Common.{rules}
use Rattle.event_core.proofs.event.Event.of_thread.Goals as goal

pub returns : goal.returns
returns c = search rules
