use Rattle.std.proofs.Common.{[], ◌∷◌, refl}
use Rattle.std.specs.Result.{result_err}
use Rattle.std.proofs.lemmas.Result.{err_from_is_err_and}
use Rattle.transaction_view.specs.Grammar.{frames_of_parts}
use Rattle.report_text.specs.Answers.{first_fault_line}
use Rattle.audit_run.specs.Run.{frames_of_capture}
use Rattle.audit_run.proofs.AnswerLaws.{none_alone, some_alone}
use Rattle.audit_run.proofs.RunLaws.{broken_by}
use Rattle.audit_run.proofs.runs.write_first_fault.Goals as goal

pub returns-in_err-found-clause-written : goal.returns-in_err-found-clause-written
returns-in_err-found-clause-written g c =
    let error = err_from_is_err_and c.from_residual.result c.from_residual.ensures.1 in
    rw (error.1, error.2) (broken_by first_fault_line (λ parts. result_err (frames_of_parts parts)) (λ capture. first_fault_line (capture ∷ []))
    (λ capture. result_err (frames_of_capture capture)) (c.args.capture.now ∷ []) c.args.capture.now _ _ _ refl c.in_err-found.ensures.written)

pub returns-in-Some-clause-written : goal.returns-in-Some-clause-written
returns-in-Some-clause-written g c =
    let writes = rw c.in-Some.is at c.in_ok-found.ensures.written in
    (writes.0, some_alone (frames_of_parts (c.args.capture.now ∷ [])) c.in-Some.found writes.1)

pub returns-in-None-clause-written : goal.returns-in-None-clause-written
returns-in-None-clause-written g c =
    let writes = rw c.in-None.is at c.in_ok-found.ensures.written in
    (writes.0, none_alone (frames_of_parts (c.args.capture.now ∷ [])) writes.1)
