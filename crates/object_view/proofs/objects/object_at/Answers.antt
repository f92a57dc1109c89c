use Rattle.std.proofs.Common.{sym, ap, ◌∙◌}
use Rattle.std.proofs.lemmas.List.{take_rest}
use Rattle.transaction_view.specs.Envelope.{number_at}
use Rattle.object_view.proofs.ObjectLaws.{number_in_front, number_at-drop, sort_of-number}
use Rattle.object_view.proofs.objects.object_at.Goals as goal

pub invariant_of-result-clause-by_bytes : goal.invariant_of-result-clause-by_bytes
invariant_of-result-clause-by_bytes c =
    ap (number_at 4 0) c.split_at.ensures.front ∙ number_in_front c.in-Some.sort c.length-2.result _ c.length-2.ensures
    ∙ ap (number_at 4 0) (take_rest c.args.body.now c.args.offset) ∙ number_at-drop 4 c.args.offset c.args.body.now ∙ sym c.u32_at.ensures
    ∙ sym (sort_of-number c.u32_at.result c.in-Some.sort (sym c.of.ensures ∙ c.in-Some.is))
