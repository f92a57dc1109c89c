use Rattle.std.proofs.Common.{refl}
use Rattle.audit_findings.proofs.SequenceLaws.{both_have}
use Rattle.audit_findings.proofs.sequences.Sequences.then.Goals as goal

pub returns : goal.returns
returns c frames others sums more =
    both_have c.args.self c.args.later _ frames others sums more c.if-self-eq0.false c.if-later-eq0.false refl refl refl
