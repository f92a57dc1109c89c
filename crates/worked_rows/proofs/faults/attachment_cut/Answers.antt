use Rattle.std.proofs.Common.{refl}
use Rattle.std.specs.Fmt.{digits}
use Rattle.binder_code.specs.Commands.{command_lines, return_lines}
use Rattle.capture_frame.specs.Envelope.{number_at}
use Rattle.report_text.specs.Fault.{fault_line, part_fault_line}
use Rattle.report_text.specs.Text.{report_text}
use Rattle.worked_rows.proofs.faults.attachment_cut.Goals as goal

pub returns-clause-at_16 : goal.returns-clause-at_16
unfolding command_lines return_lines digits number_at report_text
returns-clause-at_16 c = refl

pub returns-clause-from_17_to_47 : goal.returns-clause-from_17_to_47
unfolding command_lines return_lines digits number_at part_fault_line fault_line
returns-clause-from_17_to_47 c = refl

pub returns-clause-from_48_to_159 : goal.returns-clause-from_48_to_159
unfolding command_lines return_lines digits number_at part_fault_line fault_line
returns-clause-from_48_to_159 c = refl
