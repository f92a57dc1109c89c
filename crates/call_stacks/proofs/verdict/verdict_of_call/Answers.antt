use Rattle.std.proofs.Common.{rules}
use Rattle.call_stacks.proofs.verdict.verdict_of_call.Goals as goal

pub returns-in-Error : goal.returns-in-Error
returns-in-Error c = search rules
