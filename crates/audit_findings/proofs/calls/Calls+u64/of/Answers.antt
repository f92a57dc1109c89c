use Rattle.std.proofs.Common.{◌≡◌, ℕ, ◌+◌, length, ap, ap₂, ◌∙◌, arith}
use Rattle.call_stacks.specs.Calls.{how_many}
use Rattle.call_stacks.specs.Verdicts.{is_crossed, is_failed, is_open}
use Rattle.call_stacks.specs.declared.verdict.Verdict.{Verdict}
use Rattle.audit_findings.proofs.CallCounts.{crossed_lacks, failed_lacks, kept_many, open_lacks, unanswered_many}
use Rattle.audit_findings.proofs.calls.Calls+u64.of.Goals as goal

pub returns : goal.returns
returns c told answered kept together =
    let calls = c.as_slice-calls.ensures.value ∙ kept in
    let many = λ (test : Verdict → _). ap (how_many test) calls in
    let failed = c.count_of.ensures ∙ many is_failed ∙ kept_many is_failed failed_lacks told in
    let crossed = c.count_of-crossed.ensures ∙ many is_crossed ∙ kept_many is_crossed crossed_lacks told in
    let left_open = c.count_of-open.ensures ∙ many is_open ∙ kept_many is_open open_lacks told in
    let unanswered = ap₂ (λ (a b : ℕ). a + b) crossed left_open ∙ unanswered_many told in
    let rows = c.of.ensures ∙ kept in
    let long = together.together in
    let few = together.few in
    let all = c.saturating_add.ensures in
    let same = ap length c.as_slice-calls.ensures.value in
    let sum : c.saturating_add.result ≡ length told = omega (arith, all, same, long, few) in
    λ i. record { all = sum i; answered = answered i; failed = failed i; unanswered = unanswered i; rows = rows i }
