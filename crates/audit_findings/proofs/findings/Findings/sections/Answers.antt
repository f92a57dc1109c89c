use Rattle.std.proofs.Common.{subst}
use Rattle.audit_findings.specs.Kept.{AreSectionsOf}
use Rattle.audit_findings.proofs.findings.Findings.sections.Goals as goal

pub returns : goal.returns
returns c = subst (λ frames. AreSectionsOf frames c.self.inside.sections) c.self.view_is c.self.invariant.1
