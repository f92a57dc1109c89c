use Rattle.std.proofs.Common.{rules}
use Rattle.call_stacks.proofs.calls.Calls.enter.Goals as goal

pub returns-in-Refused : goal.returns-in-Refused
returns-in-Refused g c = search rules
