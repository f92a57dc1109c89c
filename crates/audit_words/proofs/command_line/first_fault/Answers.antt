use Rattle.std.proofs.Common.{ap₂, ◌∙◌}
use Rattle.std.proofs.lemmas.Result.{IfOk-weaker}
use Rattle.clap.specs.Words.{with_rule}
use Rattle.audit_words.proofs.command_line.first_fault.Goals as goal

pub returns-clause-app : goal.returns-clause-app
returns-clause-app c =
    IfOk-weaker c.arg.result _ _
    (λ made adds. adds.shape c.files.ensures.local ∙ ap₂ with_rule c.new.ensures.app c.files.ensures.rule)
    c.arg.ensures
