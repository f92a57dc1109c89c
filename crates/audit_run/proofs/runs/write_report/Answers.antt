use Rattle.std.proofs.Common.{[], ◌∷◌, refl}
use Rattle.std.proofs.lemmas.Result.{err_from_is_err_and}
use Rattle.transaction_view.specs.Grammar.{frames_of_parts}
use Rattle.report_text.specs.Answers.{answer}
use Rattle.audit_run.specs.Run.{frames_of_capture, written_of}
use Rattle.audit_run.proofs.AnswerLaws.{malformed_alone, report_alone}
use Rattle.audit_run.proofs.RunLaws.{broken_by}
use Rattle.audit_run.proofs.runs.write_report.Goals as goal

pub returns-in_err-write_parts : goal.returns-in_err-write_parts
returns-in_err-write_parts g c =
    let error = err_from_is_err_and c.from_residual.result c.from_residual.ensures.1 in
    rw (error.1, error.2) (broken_by answer (λ parts. written_of (frames_of_parts parts)) (λ capture. answer (capture ∷ []))
    (λ capture. written_of (frames_of_capture capture)) (c.args.capture.now ∷ []) c.args.capture.now _ _ _ refl c.in_err-write_parts.ensures)

pub returns-in-Report : goal.returns-in-Report
returns-in-Report g c =
    let writes = rw c.in-Report.is at c.in_ok-write_parts.ensures in
    (writes.0, report_alone (frames_of_parts (c.args.capture.now ∷ [])) writes.1)

pub returns-in-Malformed : goal.returns-in-Malformed
returns-in-Malformed g c =
    let writes = rw c.in-Malformed.is at c.in_ok-write_parts.ensures in
    (writes.0, malformed_alone (frames_of_parts (c.args.capture.now ∷ [])) c.in-Malformed.found writes.1)
