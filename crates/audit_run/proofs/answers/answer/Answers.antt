use Rattle.std.proofs.Common.{ℕ, List, Option, sym, ap}
use Rattle.std.specs.Result.{result_err}
use Rattle.std.proofs.lemmas.Result.{err_from_is_err_and}
use Rattle.capture_frame.specs.declared.fault.PartFault.{PartFault}
use Rattle.transaction_view.specs.Grammar.{frames_of_parts}
use Rattle.report_text.specs.Answers.{answer, first_fault_line}
use Rattle.audit_run.specs.Question.{reading_status}
use Rattle.audit_run.specs.Run.{written_of}
use Rattle.audit_run.specs.declared.written.Written.{Written}
use Rattle.audit_run.proofs.AnswerLaws.{if_malformed, if_none, if_report, if_some}
use Rattle.audit_run.proofs.RunLaws.{runs_out, runs_to}
use Rattle.audit_run.proofs.answers.answer.Goals as goal

-- what a run returns on these parts, and with which status
abbrev written : List (List ℕ) → Written PartFault
written parts = written_of (frames_of_parts parts)

abbrev fault : List (List ℕ) → Option PartFault
fault parts = result_err (frames_of_parts parts)

abbrev status : List (List ℕ) → ℕ
status parts = reading_status (frames_of_parts parts)

pub returns-in_err-run_parts-in-Report : goal.returns-in_err-run_parts-in-Report
returns-in_err-run_parts-in-Report g c =
    let error = err_from_is_err_and c.from_residual.result c.from_residual.ensures.1 in
    rw (c.in-Report.is, error.1, error.2) (runs_out _ answer written status _ _ _ c.in_err-run_parts-in-Report.ensures)

pub returns-in_err-run_first_fault_parts-in-FirstFault : goal.returns-in_err-run_first_fault_parts-in-FirstFault
returns-in_err-run_first_fault_parts-in-FirstFault g c =
    let error = err_from_is_err_and c.from_residual-in_err-run_first_fault_parts-in-FirstFault.result c.from_residual-in_err-run_first_fault_parts-in-FirstFault.ensures.1 in
    rw (c.in-FirstFault.is, error.1, error.2) (runs_out _ first_fault_line fault status _ _ _ c.in_err-run_first_fault_parts-in-FirstFault.ensures)

pub returns-in-Report-2 : goal.returns-in-Report-2
returns-in-Report-2 g c =
    let ran = rw c.in-Report-2.is at c.in_ok-run_parts-in-Report.ensures in
    rw c.in-Report.is
    (runs_to _ answer written status _ _ _ 0 (λ read is. sym (ap reading_status (if_report (frames_of_parts read) is).1)) ran)

pub returns-in-Malformed : goal.returns-in-Malformed
returns-in-Malformed g c =
    let ran = rw c.in-Malformed.is at c.in_ok-run_parts-in-Report.ensures in
    rw c.in-Report.is
    (runs_to _ answer written status _ _ _ 2 (λ read is. sym (ap reading_status (if_malformed (frames_of_parts read) _ is))) ran)

pub returns-in-None : goal.returns-in-None
returns-in-None g c =
    let ran = rw c.in-None.is at c.in_ok-run_first_fault_parts-in-FirstFault.ensures in
    rw c.in-FirstFault.is
    (runs_to _ first_fault_line fault status _ _ _ 0 (λ read is. sym (ap reading_status (if_none (frames_of_parts read) is).1)) ran)

pub returns-in-Some : goal.returns-in-Some
returns-in-Some g c =
    let ran = rw c.in-Some.is at c.in_ok-run_first_fault_parts-in-FirstFault.ensures in
    rw c.in-FirstFault.is
    (runs_to _ first_fault_line fault status _ _ _ 2 (λ read is. sym (ap reading_status (if_some (frames_of_parts read) _ is))) ran)
