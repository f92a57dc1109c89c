use Rattle.std.proofs.Common.{refl}
use Rattle.std.specs.Fmt.{digits}
use Rattle.binder_code.specs.Commands.{command_lines, return_lines}
use Rattle.capture_frame.specs.Envelope.{number_at}
use Rattle.report_text.specs.Text.{report_text}
use Rattle.worked_rows.proofs.objects.held.Goals as goal

pub returns-clause-held_and_taken : goal.returns-clause-held_and_taken
unfolding command_lines return_lines digits number_at report_text
returns-clause-held_and_taken c = refl

pub returns-clause-held_taken_and_freed : goal.returns-clause-held_taken_and_freed
unfolding command_lines return_lines digits number_at report_text
returns-clause-held_taken_and_freed c = refl

pub returns-clause-held_and_freed : goal.returns-clause-held_and_freed
unfolding command_lines return_lines digits number_at report_text
returns-clause-held_and_freed c = refl
