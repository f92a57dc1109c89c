use Rattle.std.proofs.Common.{refl}
use Rattle.std.specs.Fmt.{digits}
use Rattle.binder_code.specs.Commands.{command_lines, return_lines}
use Rattle.capture_frame.specs.Envelope.{number_at}
use Rattle.report_text.specs.Fault.{part_fault_line}
use Rattle.report_text.specs.Text.{report_text}
use Rattle.worked_rows.proofs.parts.in_parts.Goals as goal

pub returns-clause-reply : goal.returns-clause-reply
unfolding command_lines return_lines digits number_at report_text
returns-clause-reply c = refl

pub returns-clause-headers_alone : goal.returns-clause-headers_alone
unfolding command_lines return_lines digits number_at report_text
returns-clause-headers_alone c = refl

pub returns-clause-missing : goal.returns-clause-missing
unfolding command_lines return_lines digits number_at report_text
returns-clause-missing c = refl

pub returns-clause-other_order : goal.returns-clause-other_order
unfolding command_lines return_lines digits number_at part_fault_line
returns-clause-other_order c = refl

pub returns-clause-short : goal.returns-clause-short
unfolding command_lines return_lines digits number_at part_fault_line
returns-clause-short c = refl
