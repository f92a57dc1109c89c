use Rattle.std.proofs.Common.{◌≡◌, ◌||◌, ℕ, take}
use Rattle.std.specs.BTreeSet.{contains}
use Rattle.std.specs.List.{list_any}
use Rattle.std.specs.Ordering.{nat_cmp}
use Rattle.handle_ledger.proofs.HeldLaws.{is_of}
use Rattle.handle_ledger.proofs.handles.HandleLedger.named_or_held.Given as goal

abbrev pub invariant-loop-row : goal.invariant-loop-row
invariant-loop-row l = (q : ℕ)
    → contains nat_cmp l.handles q ≡ (contains nat_cmp l.initial.handles q || list_any (is_of q) (take l.row-index l.row-items))
