use Rattle.std.proofs.Common.{ap, ◌∙◌}
use Rattle.audit_findings.specs.Nodes.{is_unbalanced_node}
use Rattle.audit_findings.specs.References.{references}
use Rattle.audit_findings.proofs.nodes.nodes_of.Goals as goal

pub returns : goal.returns
returns c frames of = c.references_of.ensures ∙ ap (references is_unbalanced_node) (c.in_ok-rows.ensures frames of)
