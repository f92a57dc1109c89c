use Rattle.std.proofs.Common.{◌++◌, sym, ap, ◌∙◌, arith}
use Rattle.std.specs.List.{flat_map}
use Rattle.std.proofs.lemmas.List.{take_all}
use Rattle.audit_findings.proofs.HandleRows.{items_in, joined_next, joined_to}
use Rattle.audit_findings.proofs.joined.joined.Goals as goal

pub loop-list-init : goal.loop-list-init
loop-list-init g c = c.new-all.ensures.items

pub loop-list-preserved : goal.loop-list-preserved
loop-list-preserved g c =
    c.in_ok-extend_from_slice.ensures.items ∙ ap (λ all. all ++ c.as_slice.result.now) c.loop-list.invariant
    ∙ ap (λ own. joined_to c.args.lists.now c.loop-list.list-index ++ own) (c.as_slice.ensures.value ∙ ap items_in c.list-item.is)
    ∙ sym (joined_next c.args.lists.now c.loop-list.list-index _ c.loop-list-test.true)

pub returns : goal.returns
returns g c = c.loop-list.invariant ∙ ap (flat_map items_in) (take_all c.loop-list.list-index c.args.lists.now (omega arith))
