use Rattle.std.proofs.Common.{map, sym, ap, ◌∙◌}
use Rattle.std.specs.Prelude.{is_ok}
use Rattle.audit_run.proofs.AnswerLaws.{answer_of}
use Rattle.audit_run.proofs.part_runs.report_on.Goals as goal

pub returns-clause-read : goal.returns-clause-read
returns-clause-read g c = ap is_ok c.in_ok-found.ensures.found

pub returns-clause-report : goal.returns-clause-report
returns-clause-report g c =
    c.in_ok-report_of.ensures ∙ sym (answer_of (map (λ part. part.now) c.args.parts.now) _ c.in_ok-found.ensures.found)
