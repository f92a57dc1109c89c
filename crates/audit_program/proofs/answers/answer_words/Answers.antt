use Rattle.std.proofs.Common.{map, string_bytes}
use Rattle.std.proofs.lemmas.Result.{err_from_is_err_and}
use Rattle.audit_program.proofs.ProgramLemmas.{failed_on_files}
use Rattle.audit_program.proofs.answers.answer_words.Goals as goal

pub returns-in_err-status-clause-failed : goal.returns-in_err-status-clause-failed
returns-in_err-status-clause-failed g c =
    let asked = rw c.in_ok-matches.ensures.rows at c.in-Some.ensures.some in
    let failure = err_from_is_err_and c.from_residual-in_err-status.result c.from_residual-in_err-status.ensures.1 in
    rw (failure.1, failure.2) (failed_on_files _ (map string_bytes c.args.words.now) c.in-Some.request _ _ _
    (c.in_ok-matches.ensures.taken, asked) c.in_err-status.ensures)

pub returns-clause-answered : goal.returns-clause-answered
returns-clause-answered g c =
    let asked = rw c.in_ok-matches.ensures.rows at c.in-Some.ensures.some in
    (c.in-Some.request, (c.in_ok-matches.ensures.taken, asked), c.in_ok-status.ensures)
