use Rattle.std.proofs.Common.{ap, ◌∙◌}
use Rattle.std.proofs.KnownBytes.{Keeps-refl}
use Rattle.audit_program.specs.Failure.{failure_of_words}
use Rattle.audit_program.proofs.status.ended.Goals as goal

pub returns-in-Ok : goal.returns-in-Ok
returns-in-Ok g c = rw (c.in-Ok.is, c.from.ensures) c.program_on_args.ensures

pub returns-in-Err : goal.returns-in-Err
returns-in-Err g c =
    let failure = c.words_failure.ensures ∙ ap failure_of_words c.kind.ensures in
    rw (c.in-Err.is, c.from-in-Err.ensures) (rw (← failure) (Keeps-refl _, c.ended_by.ensures.line.0, c.ended_by.ensures.status))
