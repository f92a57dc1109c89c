use Rattle.std.proofs.Common.{refl}
use Rattle.std.specs.Fmt.{digits}
use Rattle.binder_code.specs.Commands.{command_lines, return_lines}
use Rattle.capture_frame.specs.Envelope.{number_at}
use Rattle.report_text.specs.Text.{report_text}
use Rattle.worked_rows.proofs.counts.frames.Goals as goal

pub returns-clause-empty : goal.returns-clause-empty
unfolding command_lines return_lines digits number_at report_text
returns-clause-empty c = refl

pub returns-clause-opaque : goal.returns-clause-opaque
unfolding command_lines return_lines digits number_at report_text
returns-clause-opaque c = refl

pub returns-clause-missing : goal.returns-clause-missing
unfolding command_lines return_lines digits number_at report_text
returns-clause-missing c = refl

pub returns-clause-many_frames : goal.returns-clause-many_frames
unfolding command_lines return_lines digits number_at report_text
returns-clause-many_frames c = refl
