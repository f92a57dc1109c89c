use Rattle.std.proofs.Common.{ℕ, List, Option, map, sym, ap, ◌∙◌}
use Rattle.std.specs.Result.{result_err}
use Rattle.std.proofs.lemmas.Result.{err_from_is_err_and}
use Rattle.capture_frame.specs.declared.fault.PartFault.{PartFault}
use Rattle.transaction_view.specs.Grammar.{frames_of_parts}
use Rattle.report_text.specs.Answers.{first_fault_line}
use Rattle.audit_judge.proofs.CutLaws.{bad_read, good_read}
use Rattle.audit_run.proofs.AnswerLaws.{line_of, line_of_slices}
use Rattle.audit_run.proofs.RunLaws.{line_begun, line_written}
use Rattle.audit_run.proofs.part_runs.write_first_fault_parts.Goals as goal

abbrev value : List (List ℕ) → Option PartFault
value parts = result_err (frames_of_parts parts)

pub returns-in_err-write_fault-in-Some-clause-written : goal.returns-in_err-write_fault-in-Some-clause-written
returns-in_err-write_fault-in-Some-clause-written g c =
    let parts = map (λ part. part.now) c.args.parts.now in
    let error = err_from_is_err_and c.from_residual.result c.from_residual.ensures.1 in
    let unwritten = c.in_err-write_fault-in-Some.ensures in
    let read = bad_read parts c.in-Some.found (sym c.in-Some.ensures) in
    rw (error.1, error.2) (line_begun first_fault_line value parts _ _ _ _ (line_of parts _ read ∙ line_of_slices c.args.parts.now c.in-Some.found) unwritten.fault unwritten.err)

pub returns-in_ok-write_fault-in-Some-clause-written : goal.returns-in_ok-write_fault-in-Some-clause-written
returns-in_ok-write_fault-in-Some-clause-written g c =
    let parts = map (λ part. part.now) c.args.parts.now in
    let read = bad_read parts c.in-Some.found (sym c.in-Some.ensures) in
    line_written first_fault_line value parts _ _ _ _ (line_of parts _ read ∙ line_of_slices c.args.parts.now c.in-Some.found) (sym (ap result_err read))
    c.in_ok-write_fault-in-Some.ensures.ok

pub returns-in_err-write_text-in-None-clause-written : goal.returns-in_err-write_text-in-None-clause-written
returns-in_err-write_text-in-None-clause-written g c =
    let parts = map (λ part. part.now) c.args.parts.now in
    let error = err_from_is_err_and c.from_residual-in_err-write_text-in-None.result c.from_residual-in_err-write_text-in-None.ensures.1 in
    let unwritten = c.in_err-write_text-in-None.ensures in
    let read = good_read parts (sym c.in-None.ensures) in
    rw (error.1, error.2) (line_begun first_fault_line value parts _ _ _ _ (line_of parts _ read) unwritten.fault unwritten.err)

pub returns-in_ok-write_text-in-None-clause-written : goal.returns-in_ok-write_text-in-None-clause-written
returns-in_ok-write_text-in-None-clause-written g c =
    let parts = map (λ part. part.now) c.args.parts.now in
    let read = good_read parts (sym c.in-None.ensures) in
    line_written first_fault_line value parts _ _ _ _ (line_of parts _ read) (sym (ap result_err read)) c.in_ok-write_text-in-None.ensures.ok
