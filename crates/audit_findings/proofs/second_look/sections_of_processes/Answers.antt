use Rattle.std.proofs.lemmas.Result.{IfOk-weaker}
use Rattle.audit_findings.proofs.second_look.sections_of_processes.Goals as goal

pub returns : goal.returns
returns c =
    IfOk-weaker c.of-sections.result _ _ (λ kept given frames sums. given frames (c.processes.ensures frames sums c.empty-none.ensures)) c.of-sections.ensures
