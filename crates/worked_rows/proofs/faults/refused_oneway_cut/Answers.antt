use Rattle.std.proofs.Common.{refl}
use Rattle.std.specs.Fmt.{digits}
use Rattle.binder_code.specs.Commands.{command_lines, return_lines}
use Rattle.capture_frame.specs.Envelope.{number_at}
use Rattle.report_text.specs.Fault.{fault_line, part_fault_line}
use Rattle.report_text.specs.Text.{report_text}
use Rattle.worked_rows.proofs.faults.refused_oneway_cut.Goals as goal

pub returns-clause-from_221_to_251 : goal.returns-clause-from_221_to_251
unfolding command_lines return_lines digits number_at part_fault_line fault_line
returns-clause-from_221_to_251 c = refl

pub returns-clause-from_321_to_351 : goal.returns-clause-from_321_to_351
unfolding command_lines return_lines digits number_at part_fault_line fault_line
returns-clause-from_321_to_351 c = refl

pub returns-clause-from_352_to_355 : goal.returns-clause-from_352_to_355
unfolding command_lines return_lines digits number_at part_fault_line fault_line
returns-clause-from_352_to_355 c = refl

pub returns-clause-at_116 : goal.returns-clause-at_116
unfolding command_lines return_lines digits number_at report_text
returns-clause-at_116 c = refl

pub returns-clause-at_220 : goal.returns-clause-at_220
unfolding command_lines return_lines digits number_at report_text
returns-clause-at_220 c = refl

pub returns-clause-at_320 : goal.returns-clause-at_320
unfolding command_lines return_lines digits number_at report_text
returns-clause-at_320 c = refl
