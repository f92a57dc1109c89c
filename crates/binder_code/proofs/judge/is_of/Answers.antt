use Rattle.std.proofs.Common.{rules}
use Rattle.binder_code.proofs.judge.is_of.Goals as goal

pub returns-then-letter : goal.returns-then-letter
returns-then-letter c = search rules
