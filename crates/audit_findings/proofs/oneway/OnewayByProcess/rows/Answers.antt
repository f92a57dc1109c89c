use Rattle.std.proofs.lemmas.Result.{IfOk-weaker}
use Rattle.process_ledgers.proofs.OnewayLaws.{rows_said}
use Rattle.process_ledgers.specs.Items.{oneway_item_of}
use Rattle.process_ledgers.specs.Processes.{items_of_process}
use Rattle.audit_findings.proofs.oneway.OnewayByProcess.rows.Goals as goal

pub returns : goal.returns
returns c =
    IfOk-weaker c.rows.result _ _ (λ rows gives events process of. rows_said c.args.ledgers.now.oneway.own rows.items gives (items_of_process oneway_item_of process events) of.oneway)
    c.rows.ensures
