use Rattle.std.proofs.Common.{ap₂, ◌∙◌}
use Rattle.std.proofs.lemmas.Result.{IfOk-weaker}
use Rattle.clap.specs.Words.{with_rule}
use Rattle.audit_words.proofs.command_line.report.Goals as goal

-- each call adds what its clause says
pub returns-clause-app : goal.returns-clause-app
returns-clause-app c =
    IfOk-weaker c.arg-3.result _ _
    (λ made adds. adds.shape c.files.ensures.local
    ∙ ap₂ with_rule (c.in_ok-arg-2.ensures.shape c.piece.ensures.local
    ∙ ap₂ with_rule (c.in_ok-arg.ensures.shape c.workers.ensures.local
    ∙ ap₂ with_rule c.new.ensures.app c.workers.ensures.rule) c.piece.ensures.rule) c.files.ensures.rule)
    c.arg-3.ensures
