use Rattle.std.proofs.Common.{refl}
use Rattle.std.specs.Fmt.{digits}
use Rattle.binder_code.specs.Commands.{command_lines, return_lines}
use Rattle.capture_frame.specs.Envelope.{number_at}
use Rattle.report_text.specs.Fault.{fault_line, part_fault_line}
use Rattle.worked_rows.proofs.faults.units.Goals as goal

pub returns-clause-sequence : goal.returns-clause-sequence
unfolding command_lines return_lines digits number_at part_fault_line fault_line
returns-clause-sequence c = refl

pub returns-clause-device_in_version_1 : goal.returns-clause-device_in_version_1
unfolding command_lines return_lines digits number_at part_fault_line fault_line
returns-clause-device_in_version_1 c = refl

pub returns-clause-later_frame_past_the_end : goal.returns-clause-later_frame_past_the_end
unfolding command_lines return_lines digits number_at part_fault_line fault_line
returns-clause-later_frame_past_the_end c = refl

pub returns-clause-code_cut_before_a_bad_frame : goal.returns-clause-code_cut_before_a_bad_frame
unfolding command_lines return_lines digits number_at part_fault_line fault_line
returns-clause-code_cut_before_a_bad_frame c = refl

pub returns-clause-call_of_40_bytes : goal.returns-clause-call_of_40_bytes
unfolding command_lines return_lines digits number_at part_fault_line fault_line
returns-clause-call_of_40_bytes c = refl

pub returns-clause-two_wrong_directions : goal.returns-clause-two_wrong_directions
unfolding command_lines return_lines digits number_at part_fault_line fault_line
returns-clause-two_wrong_directions c = refl

pub returns-clause-wrong_attachment : goal.returns-clause-wrong_attachment
unfolding command_lines return_lines digits number_at part_fault_line fault_line
returns-clause-wrong_attachment c = refl
