use Rattle.std.proofs.Common.{refl}
use Rattle.binder_code.specs.Commands.{command_lines, return_lines}
use Rattle.binder_code.proofs.judge.lines.Goals as goal

-- by computing
pub returns-in-Command-clause-meant : goal.returns-in-Command-clause-meant
unfolding command_lines return_lines
returns-in-Command-clause-meant c = rw c.in-Command.is refl

pub returns-in-Return-clause-meant : goal.returns-in-Return-clause-meant
unfolding command_lines return_lines
returns-in-Return-clause-meant c = rw c.in-Return.is refl

pub returns-in-Command-clause-spelled : goal.returns-in-Command-clause-spelled
unfolding command_lines return_lines
returns-in-Command-clause-spelled c = rw c.in-Command.is refl

pub returns-in-Return-clause-spelled : goal.returns-in-Return-clause-spelled
unfolding command_lines return_lines
returns-in-Return-clause-spelled c = rw c.in-Return.is refl
