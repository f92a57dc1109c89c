use Rattle.std.proofs.Common.{refl}
use Rattle.std.specs.Fmt.{digits}
use Rattle.binder_code.specs.Commands.{command_lines, return_lines}
use Rattle.capture_frame.specs.Envelope.{number_at}
use Rattle.report_text.specs.Fault.{fault_line, part_fault_line}
use Rattle.worked_rows.proofs.faults.attachment_changed.Goals as goal

pub returns-clause-command_length_69 : goal.returns-clause-command_length_69
unfolding command_lines return_lines digits number_at part_fault_line fault_line
returns-clause-command_length_69 c = refl

pub returns-clause-command_length_67 : goal.returns-clause-command_length_67
unfolding command_lines return_lines digits number_at part_fault_line fault_line
returns-clause-command_length_67 c = refl

pub returns-clause-no_command_bytes : goal.returns-clause-no_command_bytes
unfolding command_lines return_lines digits number_at part_fault_line fault_line
returns-clause-no_command_bytes c = refl

pub returns-clause-attachment_length_45 : goal.returns-clause-attachment_length_45
unfolding command_lines return_lines digits number_at part_fault_line fault_line
returns-clause-attachment_length_45 c = refl

pub returns-clause-attachment_length_43 : goal.returns-clause-attachment_length_43
unfolding command_lines return_lines digits number_at part_fault_line fault_line
returns-clause-attachment_length_43 c = refl

pub returns-clause-entry_of_11_bytes : goal.returns-clause-entry_of_11_bytes
unfolding command_lines return_lines digits number_at part_fault_line fault_line
returns-clause-entry_of_11_bytes c = refl

pub returns-clause-no_attachment_bytes : goal.returns-clause-no_attachment_bytes
unfolding command_lines return_lines digits number_at part_fault_line fault_line
returns-clause-no_attachment_bytes c = refl

pub returns-clause-code_of_65_bytes : goal.returns-clause-code_of_65_bytes
unfolding command_lines return_lines digits number_at part_fault_line fault_line
returns-clause-code_of_65_bytes c = refl

pub returns-clause-data_size_25 : goal.returns-clause-data_size_25
unfolding command_lines return_lines digits number_at part_fault_line fault_line
returns-clause-data_size_25 c = refl

pub returns-clause-offsets_size_0 : goal.returns-clause-offsets_size_0
unfolding command_lines return_lines digits number_at part_fault_line fault_line
returns-clause-offsets_size_0 c = refl

pub returns-clause-entry_inside_a_record : goal.returns-clause-entry_inside_a_record
unfolding command_lines return_lines digits number_at part_fault_line fault_line
returns-clause-entry_inside_a_record c = refl

pub returns-clause-body_of_25_bytes : goal.returns-clause-body_of_25_bytes
unfolding command_lines return_lines digits number_at part_fault_line fault_line
returns-clause-body_of_25_bytes c = refl

pub returns-clause-body_of_23_bytes : goal.returns-clause-body_of_23_bytes
unfolding command_lines return_lines digits number_at part_fault_line fault_line
returns-clause-body_of_23_bytes c = refl

pub returns-clause-list_of_9_bytes : goal.returns-clause-list_of_9_bytes
unfolding command_lines return_lines digits number_at part_fault_line fault_line
returns-clause-list_of_9_bytes c = refl

pub returns-clause-list_of_7_bytes : goal.returns-clause-list_of_7_bytes
unfolding command_lines return_lines digits number_at part_fault_line fault_line
returns-clause-list_of_7_bytes c = refl
