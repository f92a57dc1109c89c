use Rattle.std.proofs.Common.{◌++◌, [], ◌∷◌, map, ap, sym, ◌∙◌, arith}
use Rattle.std.proofs.lemmas.List.{append-nil}
use Rattle.event_core.specs.Reading.{event_text}
use Rattle.audit_findings.specs.Kept.{bad_at_place}
use Rattle.audit_findings.specs.Objects.{owned_by}
use Rattle.audit_findings.proofs.FewLaws.{few_halves, last_small}
use Rattle.audit_findings.proofs.AttachedObjects.{counts_short, objects_more}
use Rattle.audit_findings.proofs.objects.ObjectLedger.add.Goals as goal

pub count_attachment-requires : goal.count_attachment-requires
count_attachment-requires c sort =
    let e = event_text c.args.event in
    let events = c.requires.0 in
    let counts = counts_short c.args.self.now events c.requires.1 (few_halves events (e ∷ []) c.requires.2).0 sort in
    let small = last_small events e c.requires.2 in
    omega (arith, counts, small)

pub returns-in_ok-push : goal.returns-in_ok-push
returns-in_ok-push c events sums fits =
    let e = event_text c.args.event in
    let counted = c.count_attachment.ensures in
    objects_more c.args.self.now _ events (e ∷ []) sums counted.counted
    (c.in_ok-push.ensures.items ∙ ap (λ bad. c.args.self.now.bad.items ++ map bad_at_place (owned_by e bad)) (sym c.in-Some.is)
    ∙ ap (λ rows. c.args.self.now.bad.items ++ map bad_at_place rows) (sym counted.bad))

pub returns-in_default : goal.returns-in_default
returns-in_default c events sums fits =
    let e = event_text c.args.event in
    let counted = c.count_attachment.ensures in
    objects_more c.args.self.now _ events (e ∷ []) sums counted.counted
    (sym (append-nil c.args.self.now.bad.items) ∙ ap (λ bad. c.args.self.now.bad.items ++ map bad_at_place (owned_by e bad)) (sym c.in_default.is)
    ∙ ap (λ rows. c.args.self.now.bad.items ++ map bad_at_place rows) (sym counted.bad))
