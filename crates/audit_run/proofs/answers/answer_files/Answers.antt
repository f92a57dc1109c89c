use Rattle.std.proofs.Common.{arith}
use Rattle.std.proofs.KnownBytes.{Keeps-refl}
use Rattle.std.proofs.lemmas.Result.{err_from_is_err_and}
use Rattle.transaction_view.specs.Grammar.{frames_of_parts}
use Rattle.audit_run.specs.Question.{answer_to, reading_status}
use Rattle.audit_run.specs.Run.{given, none_given}
use Rattle.audit_run.proofs.RunLaws.{a_reader_each, opening_gives, run_on_files}
use Rattle.audit_run.proofs.StretchRunLaws.{one_file_given, stretch_gives}
use Rattle.audit_run.proofs.answers.answer_files.Goals as goal

pub returns-in_err-readers : goal.returns-in_err-readers
returns-in_err-readers g c =
    let error = err_from_is_err_and c.from_residual.result c.from_residual.ensures.1 in
    none_given _ (opening_gives _ _ c.in_err-readers.ensures.faults) (rw (← error.2) error.1) (Keeps-refl _)

pub returns-in_err-parts : goal.returns-in_err-parts
returns-in_err-parts g c =
    let error = err_from_is_err_and c.from_residual-in_err-parts.result c.from_residual-in_err-parts.ensures.1 in
    none_given _ (stretch_gives _ _ c.in_err-parts.ensures.faults) (rw (← error.2) error.1) (Keeps-refl _)

pub returns-in-Report-Some : goal.returns-in-Report-Some
returns-in-Report-Some g c =
    let one = one_file_given _ _ (rw c.in-Report-Some.is-1 at c.in_ok-parts.ensures.read) in
    rw c.in-Report-Some.is-0 (given _ one.2 (c.report_stretches.ensures one.0 one.1))

pub answer-requires-after_bounds : goal.answer-requires-after_bounds
answer-requires-after_bounds g c κs within =
    let many = a_reader_each (λ file. file.now) (g.S.Store.bytes_of c.args.store.now) g.S.Part.Read.remaining c.args.request.files.now
    c.in_ok-readers.readers.items c.in_ok-readers.ensures.each in
    omega (arith, many, c.requires, c.in_ok-readers.readers.ok.0)

pub returns-in_default : goal.returns-in_default
returns-in_default g c =
    run_on_files _ _ (answer_to c.args.request.question) (λ parts. reading_status (frames_of_parts parts)) _ _ c.answer.result c.in_ok-readers.ensures.each
    c.answer.ensures
