use Rattle.audit_findings.proofs.second_look.SecondLook.of.Goals as goal

pub invariant_of-result : goal.invariant_of-result
invariant_of-result c = (c.requires.good, c.requires.sums, c.in-Ok.ensures c.args.frames.now c.requires.sums)
