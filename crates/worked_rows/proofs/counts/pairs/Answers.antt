use Rattle.std.proofs.Common.{refl}
use Rattle.std.specs.Fmt.{digits}
use Rattle.binder_code.specs.Commands.{command_lines, return_lines}
use Rattle.capture_frame.specs.Envelope.{number_at}
use Rattle.report_text.specs.Text.{report_text}
use Rattle.worked_rows.proofs.counts.pairs.Goals as goal

pub returns-clause-freed_before_delivered : goal.returns-clause-freed_before_delivered
unfolding command_lines return_lines digits number_at report_text
returns-clause-freed_before_delivered c = refl

pub returns-clause-death_not_acknowledged : goal.returns-clause-death_not_acknowledged
unfolding command_lines return_lines digits number_at report_text
returns-clause-death_not_acknowledged c = refl

pub returns-clause-clear_confirmed_twice : goal.returns-clause-clear_confirmed_twice
unfolding command_lines return_lines digits number_at report_text
returns-clause-clear_confirmed_twice c = refl
