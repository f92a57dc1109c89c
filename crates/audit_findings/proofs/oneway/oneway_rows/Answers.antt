use Rattle.std.proofs.Common.{◌∙◌}
use Rattle.audit_findings.proofs.oneway.oneway_rows.Goals as goal

pub returns : goal.returns
returns c frames of = c.of.ensures ∙ c.in_ok-rows_in_turn.ensures frames of
