use Rattle.std.proofs.Common.{ℕ, List, map, sym, ap, ◌∙◌}
use Rattle.std.proofs.lemmas.Result.{err_from_is_err_and}
use Rattle.capture_frame.specs.declared.fault.PartFault.{PartFault}
use Rattle.transaction_view.specs.Grammar.{frames_of_parts}
use Rattle.report_text.specs.Answers.{answer}
use Rattle.audit_run.specs.Run.{written_of}
use Rattle.audit_run.specs.declared.written.Written.{Written}
use Rattle.audit_run.proofs.AnswerLaws.{answer_of, if_ok, line_of_slices}
use Rattle.audit_run.proofs.RunLaws.{line_begun, line_written}
use Rattle.audit_run.proofs.part_runs.write_parts.Goals as goal

abbrev value : List (List ℕ) → Written PartFault
value parts = written_of (frames_of_parts parts)

pub returns-in_err-write_text-in-Ok : goal.returns-in_err-write_text-in-Ok
returns-in_err-write_text-in-Ok g c =
    let parts = map (λ part. part.now) c.args.parts.now in
    let error = err_from_is_err_and c.from_residual.result c.from_residual.ensures.1 in
    let unwritten = c.in_err-write_text-in-Ok.ensures in
    rw (error.1, error.2) (line_begun answer value parts _ _ _ _ (sym (c.as_bytes.ensures.value ∙ c.in-Ok.ensures.report)) unwritten.fault unwritten.err)

pub returns-in_ok-write_text-in-Ok : goal.returns-in_ok-write_text-in-Ok
returns-in_ok-write_text-in-Ok g c =
    let parts = map (λ part. part.now) c.args.parts.now in
    line_written answer value parts _ _ _ _ (sym (c.as_bytes.ensures.value ∙ c.in-Ok.ensures.report)) (if_ok (frames_of_parts parts) c.in-Ok.ensures.read)
    c.in_ok-write_text-in-Ok.ensures.ok

pub returns-in_err-write_fault-in-Malformed : goal.returns-in_err-write_fault-in-Malformed
returns-in_err-write_fault-in-Malformed g c =
    let parts = map (λ part. part.now) c.args.parts.now in
    let error = err_from_is_err_and c.from_residual-in_err-write_fault-in-Malformed.result c.from_residual-in_err-write_fault-in-Malformed.ensures.1 in
    let unwritten = c.in_err-write_fault-in-Malformed.ensures in
    let read = rw c.in-Malformed.is at c.in-Err.ensures.malformed in
    rw (error.1, error.2) (line_begun answer value parts _ _ _ _ (answer_of parts _ read ∙ line_of_slices c.args.parts.now c.in-Malformed.found) unwritten.fault unwritten.err)

pub returns-in_ok-write_fault-in-Malformed : goal.returns-in_ok-write_fault-in-Malformed
returns-in_ok-write_fault-in-Malformed g c =
    let parts = map (λ part. part.now) c.args.parts.now in
    let read = rw c.in-Malformed.is at c.in-Err.ensures.malformed in
    line_written answer value parts _ _ _ _ (answer_of parts _ read ∙ line_of_slices c.args.parts.now c.in-Malformed.found) (sym (ap written_of read))
    c.in_ok-write_fault-in-Malformed.ensures.ok
