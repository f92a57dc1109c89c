use Rattle.std.proofs.lemmas.Result.{IfOk-weaker}
use Rattle.audit_findings.proofs.second_look.unfreed_of.Goals as goal

pub returns : goal.returns
returns c =
    IfOk-weaker c.lists_of-lists.result _ _ (λ lists given frames sums. given frames (c.processes.ensures frames sums c.empty-none.ensures)) c.lists_of-lists.ensures
