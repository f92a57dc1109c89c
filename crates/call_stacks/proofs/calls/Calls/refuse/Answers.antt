use Rattle.std.proofs.Common.{rules}
use Rattle.call_stacks.proofs.calls.Calls.refuse.Goals as goal

pub returns : goal.returns
returns g c = search rules
