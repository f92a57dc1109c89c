use Rattle.std.proofs.Common.{◌≡◌, ◌||◌, ℕ}
use Rattle.std.specs.BTreeSet.{contains}
use Rattle.std.specs.List.{list_any}
use Rattle.std.specs.Map.{keys_of}
use Rattle.std.specs.Ordering.{eq_by_cmp, nat_cmp}
use Rattle.handle_ledger.proofs.handles.HandleLedger.named.Given as goal

abbrev pub invariant-loop-handle : goal.invariant-loop-handle
invariant-loop-handle l = (q : ℕ)
    → (contains nat_cmp l.handles q || list_any (eq_by_cmp nat_cmp q) (keys_of l.handle-iterator))
    ≡ list_any (eq_by_cmp nat_cmp q) (keys_of l.self.handles.entries)
