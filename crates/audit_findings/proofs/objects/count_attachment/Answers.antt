use Rattle.std.proofs.Common.{◌+◌, ℕ, ap, sym, ◌∙◌}
use Rattle.audit_findings.specs.Objects.{sort_count}
use Rattle.audit_findings.proofs.AttachedObjects.{one_good, one_bad}
use Rattle.audit_findings.proofs.objects.count_attachment.Goals as goal

pub returns-in-Some-clause-counted : goal.returns-in-Some-clause-counted
returns-in-Some-clause-counted c sort =
    c.count_entry.ensures.counted sort
    ∙ ap (λ (n : ℕ). sort_count c.args.counts.now sort + n) (sym (one_good c.args.event c.in-Some.entry c.in-Some.is sort))

pub returns-in-Some-clause-bad : goal.returns-in-Some-clause-bad
returns-in-Some-clause-bad c = one_bad c.args.event c.in-Some.entry c.in-Some.is c.count_entry.result c.count_entry.ensures.bad
