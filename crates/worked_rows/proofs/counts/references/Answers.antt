use Rattle.std.proofs.Common.{refl}
use Rattle.std.specs.Fmt.{digits}
use Rattle.binder_code.specs.Commands.{command_lines, return_lines}
use Rattle.capture_frame.specs.Envelope.{number_at}
use Rattle.report_text.specs.Text.{report_text}
use Rattle.worked_rows.proofs.counts.references.Goals as goal

pub returns-clause-acquire : goal.returns-clause-acquire
unfolding command_lines return_lines digits number_at report_text
returns-clause-acquire c = refl

pub returns-clause-released_before_acquired : goal.returns-clause-released_before_acquired
unfolding command_lines return_lines digits number_at report_text
returns-clause-released_before_acquired c = refl

pub returns-clause-handles_of_two_processes : goal.returns-clause-handles_of_two_processes
unfolding command_lines return_lines digits number_at report_text
returns-clause-handles_of_two_processes c = refl

pub returns-clause-node_half_confirmed : goal.returns-clause-node_half_confirmed
unfolding command_lines return_lines digits number_at report_text
returns-clause-node_half_confirmed c = refl
