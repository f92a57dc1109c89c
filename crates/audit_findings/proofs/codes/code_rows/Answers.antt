use Rattle.std.proofs.Common.{◌∙◌}
use Rattle.audit_findings.specs.Codes.{code_words}
use Rattle.audit_findings.proofs.codes.code_rows.Goals as goal

pub returns : goal.returns
returns c events sums = c.of.ensures ∙ c.in_ok-rows.ensures (code_words events) sums
