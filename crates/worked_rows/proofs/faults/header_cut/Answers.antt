use Rattle.std.proofs.Common.{refl}
use Rattle.std.specs.Fmt.{digits}
use Rattle.binder_code.specs.Commands.{command_lines, return_lines}
use Rattle.capture_frame.specs.Envelope.{number_at}
use Rattle.report_text.specs.Fault.{fault_line, part_fault_line}
use Rattle.worked_rows.proofs.faults.header_cut.Goals as goal

pub returns : goal.returns
unfolding command_lines return_lines digits number_at part_fault_line fault_line
returns c = refl
