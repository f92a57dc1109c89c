use Rattle.std.proofs.Common.{refl}
use Rattle.binder_code.specs.Commands.{command_lines, return_lines}
use Rattle.binder_code.proofs.record_kind.Line.all.Goals as goal

-- by computing
pub returns-clause-kinds : goal.returns-clause-kinds
unfolding command_lines return_lines
returns-clause-kinds c = refl

pub returns-clause-words : goal.returns-clause-words
unfolding command_lines return_lines
returns-clause-words c = refl

pub returns-clause-names : goal.returns-clause-names
unfolding command_lines return_lines
returns-clause-names c = refl
