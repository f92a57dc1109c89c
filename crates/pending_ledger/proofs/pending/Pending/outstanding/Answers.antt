use Rattle.std.proofs.Common.{◌≡◌, ◌++◌, [], IsPermutation, sym, ap, subst, ◌∙◌, append-nil, rules}
use Rattle.std.specs.BTreeMap.{IsOrdered}
use Rattle.pending_ledger.proofs.PendingLaws.{opens_of, outstanding_sorted}
use Rattle.pending_ledger.specs.Sums.{gather}
use Rattle.pending_ledger.proofs.pending.Pending.outstanding.Goals as goal

pub returns : goal.returns
returns g c = λ items sums.
    let entries = c.args.self.now.keys in
    let ordered : IsOrdered g.K.Ord.cmp entries = c.into_iter-key-iterator.ensures.into_iter_gives.1 in
    let rest : c.loop-key._key-iterator ≡ [] = search rules in
    let whole : c.loop-key.places.items ≡ gather opens_of entries.entries
    = sym (append-nil c.loop-key.places.items) ∙ sym (ap (λ es. c.loop-key.places.items ++ gather opens_of es) rest) ∙ c.loop-key.invariant in
    outstanding_sorted g.K.Ord.cmp g.met.K.Ord.total c.args.self.now ordered items sums c.sort_unstable.new.self.items
    (subst (λ ps. IsPermutation ps c.sort_unstable.new.self.items) whole c.sort_unstable.ensures.permutation) c.sort_unstable.ensures.sorted
