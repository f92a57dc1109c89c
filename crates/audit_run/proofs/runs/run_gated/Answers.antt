use Rattle.std.proofs.Common.{◌≡◌, ◌∙◌, arith}
use Rattle.std.proofs.KnownBytes.{Keeps-refl}
use Rattle.std.proofs.lemmas.Result.{err_from_is_err_and}
use Rattle.audit_run.specs.Run.{given, none_given}
use Rattle.audit_run.proofs.runs.run_gated.Goals as goal

pub returns-in_err-capture : goal.returns-in_err-capture
returns-in_err-capture g c =
    let error = err_from_is_err_and c.from_residual.result c.from_residual.ensures.1 in
    none_given _ c.in_err-capture.ensures.none (rw (← error.2) error.1) (Keeps-refl _)

pub returns : goal.returns
returns g c =
    let capture = c.in_ok-capture in
    let within = capture.ensures.within in
    let long = capture.capture.ok.0 in
    let value = c.as_slice.ensures.value in
    let same : c.as_bytes.result.now ≡ capture.capture.items = c.as_bytes.ensures.same ∙ value in
    given capture.capture.items (capture.ensures.known, omega (arith, within, long), rw value at c.as_bytes.ensures.bytes) (rw same at c.write_report.ensures)
