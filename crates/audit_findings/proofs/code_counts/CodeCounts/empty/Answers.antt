use Rattle.std.proofs.Common.{refl}
use Rattle.binder_code.specs.Commands.{command_lines, return_lines}
use Rattle.audit_findings.proofs.code_counts.CodeCounts.empty.Goals as goal

pub returns : goal.returns
unfolding command_lines return_lines
returns c = record { listed = refl; opaque = c.empty.ensures }
