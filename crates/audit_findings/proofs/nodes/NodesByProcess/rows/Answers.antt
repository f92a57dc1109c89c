use Rattle.std.proofs.lemmas.Result.{IfOk-weaker}
use Rattle.process_ledgers.specs.Items.{node_item_of}
use Rattle.process_ledgers.specs.Processes.{items_of_process}
use Rattle.audit_findings.proofs.nodes.NodesByProcess.rows.Goals as goal

pub returns : goal.returns
returns c =
    IfOk-weaker c.rows.result _ _ (λ rows gives events process of. gives (items_of_process node_item_of process events) of.nodes) c.rows.ensures
