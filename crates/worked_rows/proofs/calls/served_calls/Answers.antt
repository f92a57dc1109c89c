use Rattle.std.proofs.Common.{refl}
use Rattle.std.specs.Fmt.{digits}
use Rattle.binder_code.specs.Commands.{command_lines, return_lines}
use Rattle.capture_frame.specs.Envelope.{number_at}
use Rattle.report_text.specs.Text.{report_text}
use Rattle.worked_rows.proofs.calls.served_calls.Goals as goal

pub returns-clause-crossed_call : goal.returns-clause-crossed_call
unfolding command_lines return_lines digits number_at report_text
returns-clause-crossed_call c = refl

pub returns-clause-freed_then_replied : goal.returns-clause-freed_then_replied
unfolding command_lines return_lines digits number_at report_text
returns-clause-freed_then_replied c = refl

pub returns-clause-refused_oneway : goal.returns-clause-refused_oneway
unfolding command_lines return_lines digits number_at report_text
returns-clause-refused_oneway c = refl
