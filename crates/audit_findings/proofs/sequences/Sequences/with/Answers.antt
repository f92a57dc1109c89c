use Rattle.std.proofs.Common.{refl, sym}
use Rattle.audit_findings.proofs.SequenceLaws.{one_more}
use Rattle.audit_findings.proofs.sequences.Sequences.with.Goals.{then-self-eq0, else-self-eq0}
use Rattle.audit_findings.proofs.sequences.Sequences.with.Goals as goal

pub returns : goal.returns
returns c frames next sums same = elim c.if-self-eq0.branch [
  | then-self-eq0 w ↦ rw w.first-is (one_more c.args.self _ frames next sums refl (λ none. sym same) (λ some. absurd (some w.if-self-eq0.true)) (sym same))
  | else-self-eq0 w ↦ rw w.first-is (one_more c.args.self _ frames next sums refl (λ none. absurd (w.if-self-eq0.false none)) (λ some. refl) (sym same))
]
