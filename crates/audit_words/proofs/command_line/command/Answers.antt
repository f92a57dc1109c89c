use Rattle.std.proofs.Common.{rules, ap, ap₂, ◌∙◌}
use Rattle.std.proofs.lemmas.Result.{IfOk-weaker}
use Rattle.clap.specs.Words.{App, with_subcommand}
use Rattle.audit_words.proofs.command_line.command.Goals as goal

-- the subcommand adds what its clause says
pub returns-in-Ok : goal.returns-in-Ok
returns-in-Ok c =
    IfOk-weaker c.subcommand.result _ _
    (λ made adds. adds.shape (search rules)
    ∙ ap₂ with_subcommand c.in_ok-command.ensures (ap (λ (a : App). a.top) c.in-Ok.ensures.app))
    c.subcommand.ensures
