use Rattle.std.proofs.Common.{◌≡◌, Some, None, [], subst, sym, rules}
use Rattle.std.specs.BTreeMap.{get}
use Rattle.std.specs.Ordering.{eq_by_cmp, nat_cmp}
use Rattle.handle_ledger.proofs.HandleLaws.{counts_are}
use Rattle.handle_ledger.proofs.handles.HandleLedger.taken.Goals as goal
use Rattle.handle_ledger.specs.Handles.{HandleCountsSum}
use Rattle.summary_law.specs.ByKey.{IsOwn, items_of}

pub returns-in-Some : goal.returns-in-Some
returns-in-Some c = λ items sums.
    let found : get nat_cmp c.args.self.now.handles c.args.handle ≡ Some c.in-Some.counts.now = search rules in
    counts_are c.args.handle items c.in-Some.counts.now
    (subst (λ part. IsOwn HandleCountsSum part (items_of (eq_by_cmp nat_cmp) c.args.handle items)) found (sums c.args.handle)).1

pub returns-in-None : goal.returns-in-None
returns-in-None c = λ items sums.
    let found : get nat_cmp c.args.self.now.handles c.args.handle ≡ None = search rules in
    let nil : items_of (eq_by_cmp nat_cmp) c.args.handle items ≡ []
    = subst (λ part. IsOwn HandleCountsSum part (items_of (eq_by_cmp nat_cmp) c.args.handle items)) found (sums c.args.handle) in
    counts_are c.args.handle items c.empty.result (subst (HandleCountsSum c.empty.result) (sym nil) c.empty.ensures)
