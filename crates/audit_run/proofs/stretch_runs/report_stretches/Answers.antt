use Rattle.std.proofs.Common.{◌≡◌, ℕ, List, [], ◌∷◌, map, length, ap, sym, subst, ◌∙◌, arith}
use Rattle.std.specs.Prelude.{IsOk, string_bytes}
use Rattle.std.proofs.lemmas.Result.{err_from_is_err_and}
use Rattle.capture_frame.specs.Parts.{joined_as}
use Rattle.transaction_view.specs.Grammar.{frames_of_parts}
use Rattle.report_text.specs.Answers.{answer}
use Rattle.streams.proofs.StretchLaws.{joined_short}
use Rattle.audit_run.specs.Question.{reading_status}
use Rattle.audit_run.proofs.RunLaws.{line_begun, line_written}
use Rattle.audit_run.proofs.StretchRunLaws.{few_within, same_answer}
use Rattle.audit_run.proofs.stretch_runs.report_stretches.Goals as goal

-- the status that goes with these parts
abbrev status : List (List ℕ) → ℕ
status parts = reading_status (frames_of_parts parts)

pub report_as_parts-requires-clause-few : goal.report_as_parts-requires-clause-few
report_as_parts-requires-clause-few g c κs within =
    omega (arith, few_within c.requires.good.0 c.args.parts.items _ c.requires.good.1 c.requires.limit, ap length c.as_slice.ensures.value)

pub returns-in_err-write_text-in-Some : goal.returns-in_err-write_text-in-Some
returns-in_err-write_text-in-Some g c version good =
    let error = err_from_is_err_and c.from_residual-in_err-write_text-in-Some.result c.from_residual-in_err-write_text-in-Some.ensures.1 in
    let unwritten = c.in_err-write_text-in-Some.ensures in
    let parts = map (λ part. part.items) c.args.parts.items in
    let read = subst (λ list. IsOk (frames_of_parts (map (λ part. part.items) list))) c.as_slice.ensures.value (rw c.in-Some.is at c.in_ok-text.ensures.read) in
    let report : string_bytes c.in-Some.text ≡ answer parts =
    subst (λ list. string_bytes c.in-Some.text ≡ answer (map (λ part. part.items) list)) c.as_slice.ensures.value (rw c.in-Some.is at c.in_ok-text.ensures.report) in
    let same = same_answer version parts good read in
    rw (error.1, error.2) (line_begun answer status (joined_as version parts ∷ []) _ _ _ _ (same.0 ∙ sym report ∙ sym c.as_bytes.ensures.value) unwritten.fault unwritten.err)

pub report_joined-requires-after_bounds : goal.report_joined-requires-after_bounds
report_joined-requires-after_bounds g c κs within =
    let version = c.requires.good.0 in
    let whole = c.as_slice-in-None.ensures.value ∙ c.in_ok-capture-in-None.ensures.joined version c.requires.good.1 in
    omega (arith, ap length whole, joined_short version (map (λ part. part.items) c.args.parts.items), c.requires.limit)

pub returns-in_ok-write_text-in-Some : goal.returns-in_ok-write_text-in-Some
returns-in_ok-write_text-in-Some g c version good =
    let parts = map (λ part. part.items) c.args.parts.items in
    let read = subst (λ list. IsOk (frames_of_parts (map (λ part. part.items) list))) c.as_slice.ensures.value (rw c.in-Some.is at c.in_ok-text.ensures.read) in
    let report : string_bytes c.in-Some.text ≡ answer parts =
    subst (λ list. string_bytes c.in-Some.text ≡ answer (map (λ part. part.items) list)) c.as_slice.ensures.value (rw c.in-Some.is at c.in_ok-text.ensures.report) in
    let same = same_answer version parts good read in
    line_written answer status (joined_as version parts ∷ []) _ _ _ _ (same.0 ∙ sym report ∙ sym c.as_bytes.ensures.value) same.1 c.in_ok-write_text-in-Some.ensures.ok
