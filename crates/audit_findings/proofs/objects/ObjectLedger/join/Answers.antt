use Rattle.std.proofs.Common.{◌++◌, ap, ◌∙◌, arith}
use Rattle.audit_findings.proofs.FewLaws.{few_halves}
use Rattle.audit_findings.proofs.AttachedObjects.{counts_short, objects_joined}
use Rattle.audit_findings.proofs.objects.ObjectLedger.join.Goals as goal

pub plus-requires : goal.plus-requires
plus-requires c sort =
    let parts = few_halves c.requires.0 c.requires.1 c.requires.4 in
    let first = counts_short c.args.self c.requires.0 c.requires.2 parts.0 sort in
    let second = counts_short c.args.later c.requires.1 c.requires.3 parts.1 sort in
    omega (arith, first, second)

pub returns : goal.returns
returns c events others sums more fits =
    objects_joined c.args.self c.args.later _ events others sums more c.plus.ensures
    (c.in_ok-extend_from_slice.ensures.items ∙ ap (λ bad. c.args.self.bad.items ++ bad) c.as_slice.ensures.value)
