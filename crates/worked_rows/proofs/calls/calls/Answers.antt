use Rattle.std.proofs.Common.{refl}
use Rattle.std.specs.Fmt.{digits}
use Rattle.binder_code.specs.Commands.{command_lines, return_lines}
use Rattle.capture_frame.specs.Envelope.{number_at}
use Rattle.report_text.specs.Text.{report_text}
use Rattle.worked_rows.proofs.calls.calls.Goals as goal

pub returns-clause-reply : goal.returns-clause-reply
unfolding command_lines return_lines digits number_at report_text
returns-clause-reply c = refl

pub returns-clause-freed_reply : goal.returns-clause-freed_reply
unfolding command_lines return_lines digits number_at report_text
returns-clause-freed_reply c = refl

pub returns-clause-dead_reply : goal.returns-clause-dead_reply
unfolding command_lines return_lines digits number_at report_text
returns-clause-dead_reply c = refl
