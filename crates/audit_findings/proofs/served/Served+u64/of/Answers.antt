use Rattle.std.proofs.Common.{◌≡◌, length, ap, ◌∙◌, arith}
use Rattle.call_stacks.specs.Calls.{how_many}
use Rattle.call_stacks.specs.Verdicts.{is_crossed, is_open}
use Rattle.call_stacks.specs.declared.verdict.Verdict.{Verdict}
use Rattle.audit_findings.proofs.CallCounts.{crossed_lacks, kept_many, open_lacks}
use Rattle.audit_findings.proofs.served.Served+u64.of.Goals as goal

pub returns : goal.returns
returns c told replied kept together =
    let calls = c.as_slice-calls.ensures.value ∙ kept in
    let many = λ (test : Verdict → _). ap (how_many test) calls in
    let crossed = c.count_of.ensures ∙ many is_crossed ∙ kept_many is_crossed crossed_lacks told in
    let left_open = c.count_of-2.ensures ∙ many is_open ∙ kept_many is_open open_lacks told in
    let rows = c.of.ensures ∙ kept in
    let long = together.together in
    let few = together.few in
    let all = c.saturating_add.ensures in
    let same = ap length c.as_slice-calls.ensures.value in
    let sum : c.saturating_add.result ≡ length told = omega (arith, all, same, long, few) in
    λ i. record { all = sum i; replied = replied i; crossed = crossed i; left_open = left_open i; rows = rows i }
