use Rattle.std.proofs.Common.{◌≡◌, ◌++◌, drop, ap, ◌∙◌}
use Rattle.pending_ledger.proofs.SumLaws.{rest_from, strays_joined}
use Rattle.pending_ledger.specs.KeyEvents.{met_count}
use Rattle.pending_ledger.proofs.strays.StraysSummary.join.Goals as goal

pub returns : goal.returns
returns c = λ first second mine theirs fits.
    let own = c.args.self.places.items in
    let others = c.deref.result.now in
    let both : c.extend_from_slice.new.self.items ≡ own ++ drop (met_count c.args.self.last c.args.later.first) c.args.later.places.items
    = c.in_ok-extend_from_slice.ensures.items ∙ ap (λ t. own ++ t) (rest_from c.met_count-met.result others)
    ∙ ap (λ n. own ++ drop n others) c.met_count-met.ensures
    ∙ ap (λ t. own ++ drop (met_count c.args.self.last c.args.later.first) t) c.deref.ensures.value in
    strays_joined c.args.self c.args.later
    (record { places = c.extend_from_slice.new.self; first = c.or-joined.result; last = c.or-joined-2.result }) first second
    both c.or-joined.ensures c.or-joined-2.ensures mine theirs
