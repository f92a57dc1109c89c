use Rattle.std.proofs.Common.{ℕ, List, Option, ap, get_or, ◌∙◌, arith}
use Rattle.std.specs.Option.{unwrap_or}
use Rattle.audit_findings.proofs.LineCounts.{times_at}
use Rattle.audit_findings.proofs.code_counts.CodeCounts.count.Goals as goal

pub returns : goal.returns
returns c words sums =
    c.unwrap_or.ensures ∙ ap (λ (found : Option ℕ). unwrap_or found 0) c.copied.ensures ∙ c.get.ensures.lookup.4 (omega arith) 0
    ∙ ap (λ (counts : List ℕ). get_or counts c.place.result 0) sums.listed ∙ times_at c.args.kind c.place.result words c.place.ensures
