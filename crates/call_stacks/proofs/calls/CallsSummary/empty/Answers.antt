use Rattle.std.proofs.Common.{rules}
use Rattle.call_stacks.proofs.calls.CallsSummary.empty.Goals as goal

pub returns : goal.returns
returns g c = search rules
