use Rattle.std.proofs.Common.{refl}
use Rattle.std.specs.Fmt.{digits}
use Rattle.binder_code.specs.Commands.{command_lines, return_lines}
use Rattle.capture_frame.specs.Envelope.{number_at}
use Rattle.report_text.specs.Text.{report_text}
use Rattle.worked_rows.proofs.calls.transactions.Goals as goal

pub returns-clause-greatest_data_sizes : goal.returns-clause-greatest_data_sizes
unfolding command_lines return_lines digits number_at report_text
returns-clause-greatest_data_sizes c = refl

pub returns-clause-unknown_flags : goal.returns-clause-unknown_flags
unfolding command_lines return_lines digits number_at report_text
returns-clause-unknown_flags c = refl
