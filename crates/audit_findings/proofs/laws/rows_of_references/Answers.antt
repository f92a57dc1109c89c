use Rattle.audit_findings.proofs.HandleRowLaws.{handle_rows_are}
use Rattle.audit_findings.proofs.NodeRowLaws.{node_rows_are}
use Rattle.audit_findings.proofs.PlacesRise.{events_rise}
use Rattle.audit_findings.proofs.laws.rows_of_references.Goals as goal

pub returns-clause-handles : goal.returns-clause-handles
returns-clause-handles c = λ parts frames is. handle_rows_are frames (events_rise parts frames is)

pub returns-clause-nodes : goal.returns-clause-nodes
returns-clause-nodes c = λ frames. node_rows_are frames
