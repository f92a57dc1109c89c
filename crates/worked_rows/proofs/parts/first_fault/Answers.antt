use Rattle.std.proofs.Common.{refl}
use Rattle.std.specs.Fmt.{digits}
use Rattle.binder_code.specs.Commands.{command_lines, return_lines}
use Rattle.capture_frame.specs.Envelope.{number_at}
use Rattle.report_text.specs.Fault.{fault_line, part_fault_line}
use Rattle.worked_rows.proofs.parts.first_fault.Goals as goal

pub returns-clause-none : goal.returns-clause-none
unfolding command_lines return_lines number_at
returns-clause-none c = refl

pub returns-clause-two_wrong_directions : goal.returns-clause-two_wrong_directions
unfolding command_lines return_lines digits number_at part_fault_line fault_line
returns-clause-two_wrong_directions c = refl

pub returns-clause-in_a_part : goal.returns-clause-in_a_part
unfolding command_lines return_lines digits number_at part_fault_line
returns-clause-in_a_part c = refl
