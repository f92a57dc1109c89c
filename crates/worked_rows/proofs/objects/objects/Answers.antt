use Rattle.std.proofs.Common.{refl}
use Rattle.std.specs.Fmt.{digits}
use Rattle.binder_code.specs.Commands.{command_lines, return_lines}
use Rattle.capture_frame.specs.Envelope.{number_at}
use Rattle.report_text.specs.Text.{report_text}
use Rattle.worked_rows.proofs.objects.objects.Goals as goal

pub returns-clause-attachment : goal.returns-clause-attachment
unfolding command_lines return_lines digits number_at report_text
returns-clause-attachment c = refl

pub returns-clause-bad_object : goal.returns-clause-bad_object
unfolding command_lines return_lines digits number_at report_text
returns-clause-bad_object c = refl

pub returns-clause-overlapping_objects : goal.returns-clause-overlapping_objects
unfolding command_lines return_lines digits number_at report_text
returns-clause-overlapping_objects c = refl
