use Rattle.std.proofs.Common.{◌≡◌, ◌+◌, length, arith}
use Rattle.std.proofs.lemmas.List.{length-map}
use Rattle.binder_code.specs.declared.record_kind.Kind.TheVariants.{BrTransaction, BrTransactionSecCtx, BrReply}
use Rattle.event_core.specs.Events.{EventRead}
use Rattle.audit_findings.specs.Codes.{code_words}
use Rattle.audit_findings.specs.RecordCounts.{times}
use Rattle.audit_findings.proofs.RecordCountLaws.{deliveries_fit}
use Rattle.audit_findings.proofs.record_counts.record_counts.Goals as goal

pub overflow_add-result : goal.overflow_add-result
overflow_add-result c =
    let words = code_words c.requires.0 in
    let one : c.count.result ≡ times BrTransaction words = c.count.ensures words c.requires.1 in
    let two : c.count-2.result ≡ times BrTransactionSecCtx words = c.count-2.ensures words c.requires.1 in
    let all = deliveries_fit words in
    let long : length words ≡ length c.requires.0 = length-map c.requires.0 (λ (e : EventRead). e.code) in
    let few = c.requires.2 in
    omega (arith, one, two, all, long, few)

pub overflow_add-result-2 : goal.overflow_add-result-2
overflow_add-result-2 c =
    let words = code_words c.requires.0 in
    let one : c.count.result ≡ times BrTransaction words = c.count.ensures words c.requires.1 in
    let two : c.count-2.result ≡ times BrTransactionSecCtx words = c.count-2.ensures words c.requires.1 in
    let three : c.count-3.result ≡ times BrReply words = c.count-3.ensures words c.requires.1 in
    let all = deliveries_fit words in
    let long : length words ≡ length c.requires.0 = length-map c.requires.0 (λ (e : EventRead). e.code) in
    let few = c.requires.2 in
    omega (arith, one, two, three, all, long, few)

pub returns : goal.returns
returns c events sums =
    let words = code_words events in
    let one : c.count.result ≡ times BrTransaction words = c.count.ensures words sums in
    let two : c.count-2.result ≡ times BrTransactionSecCtx words = c.count-2.ensures words sums in
    let three : c.count-3.result ≡ times BrReply words = c.count-3.ensures words sums in
    let deliveries : c.count.result + c.count-2.result + c.count-3.result ≡ times BrTransaction words + times BrTransactionSecCtx words + times BrReply words
    = omega (arith, one, two, three) in
    λ i. record {
      deliveries = deliveries i;
      frees = c.count-4.ensures words sums i;
      requests = c.count-5.ensures words sums i;
      deaths = c.count-6.ensures words sums i;
      clears = c.count-7.ensures words sums i;
    }
