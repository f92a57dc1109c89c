use Rattle.std.proofs.Common.{rules}
use Rattle.call_stacks.proofs.verdict.verdict_between.Goals as goal

pub returns-in-Served : goal.returns-in-Served
returns-in-Served c = search rules
