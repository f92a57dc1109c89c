use Rattle.std.proofs.Common.{refl}
use Rattle.std.specs.Fmt.{digits}
use Rattle.binder_code.specs.Commands.{command_lines, return_lines}
use Rattle.capture_frame.specs.Envelope.{number_at}
use Rattle.report_text.specs.Fault.{fault_line, part_fault_line}
use Rattle.worked_rows.proofs.faults.file_header.Goals as goal

pub returns-clause-no_bytes : goal.returns-clause-no_bytes
unfolding command_lines return_lines digits number_at part_fault_line fault_line
returns-clause-no_bytes c = refl

pub returns-clause-short : goal.returns-clause-short
unfolding command_lines return_lines digits number_at part_fault_line fault_line
returns-clause-short c = refl

pub returns-clause-magic_of_version_3 : goal.returns-clause-magic_of_version_3
unfolding command_lines return_lines digits number_at part_fault_line fault_line
returns-clause-magic_of_version_3 c = refl
