use Rattle.std.proofs.Common.{rules}
use Rattle.binder_code.proofs.judge.letter.Goals as goal

pub returns-in-Command : goal.returns-in-Command
returns-in-Command c = search rules

pub returns-in-Return : goal.returns-in-Return
returns-in-Return c = search rules
