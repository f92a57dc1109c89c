-- The rows of nodes.
use Rattle.std.proofs.Common.{◌≡◌, ℕ, List, [], ◌∷◌, map, ap}
use Rattle.std.proofs.lemmas.Cmp.{nat_cmp_total, on_total, then_total}
use Rattle.std.proofs.lemmas.Map.Lookups.{CmpEqualImpliesEq, exact_unsigned, exact_pairs}
use Rattle.std.specs.BTreeMap.{BTreeMap, IsOrdered}
use Rattle.std.specs.Cmp.{IsTotalOrder}
use Rattle.std.specs.Ordering.{eq_by_cmp, nat_cmp}
use Rattle.std.specs.Prelude.{◌+ℤ◌}
use Rattle.event_core.specs.Nodes.{NodeItem}
use Rattle.event_core.specs.declared.node.NodeChange.{NodeChange}
use Rattle.event_core.specs.declared.node.NodeKey.{NodeKey}
use Rattle.event_core.specs.declared.strength.Strength.{Strength}
use Rattle.event_core.specs.declared.strength.Strength.TheVariants.{Strong, Weak}
use Rattle.handle_ledger.proofs.Counting.{IsSmall, count_more, sum_more, sum_small}
use Rattle.handle_ledger.proofs.KeyLaws.{counted_at, sum_at}
use Rattle.handle_ledger.specs.Nodes.{node_cmp, node_change, node_counts, node_due_change, node_row, node_rows, NodeCountsSum}
use Rattle.handle_ledger.specs.declared.node_counts.NodeCounts.{NodeCounts}
use Rattle.handle_ledger.specs.declared.node_row.NodeRow.{NodeRow}
use Rattle.summary_law.proofs.SortedLaws.{map_rows}
use Rattle.summary_law.specs.ByKey.{SumsByKey, items_of}
use Rattle.summary_law.specs.Count.{total, CountsOneMore}
use Rattle.summary_law.specs.Fits.{IsShort, short_halves}
use Rattle.summary_law.specs.Summary.{CanAdd, Adds}

pub node_cmp_total : IsTotalOrder node_cmp
node_cmp_total = then_total (on_total (λ (key : NodeKey). key.ptr) nat_cmp_total) (on_total (λ (key : NodeKey). key.cookie) nat_cmp_total)

pub node_cmp_exact : CmpEqualImpliesEq node_cmp
node_cmp_exact x y e =
    let both = exact_pairs nat_cmp nat_cmp exact_unsigned exact_unsigned (x.ptr, x.cookie) (y.ptr, y.cookie) e in
    ap (λ (key : ℕ × ℕ). record { ptr = key.0; cookie = key.1 }) both

-- an entry of the map as a row
abbrev pub entry_row : NodeKey × NodeCounts → NodeRow
entry_row e = record { key = e.0; counts = e.1 }

-- the counts of the items of a node are its counts among all items
counts_are : (key : NodeKey) (items : List NodeItem) (counts : NodeCounts) → NodeCountsSum counts (items_of (eq_by_cmp node_cmp) key items)
    → counts ≡ node_counts items key
counts_are key items counts sums =
    let strong = counted_at node_cmp (node_change Strong) key counts.strong items sums.strong in
    let weak = counted_at node_cmp (node_change Weak) key counts.weak items sums.weak in
    let strong_due = sum_at node_cmp (node_due_change Strong) key counts.strong_due items sums.strong_due in
    let weak_due = sum_at node_cmp (node_due_change Weak) key counts.weak_due items sums.weak_due in
    λ i. record { strong = strong i; weak = weak i; strong_due = strong_due i; weak_due = weak_due i }

pub rows_are : (m : BTreeMap NodeKey NodeCounts) → IsOrdered node_cmp m → (items : List NodeItem)
    → SumsByKey node_cmp NodeCountsSum m items → map entry_row m.entries ≡ node_rows items
rows_are m ordered items sums =
    map_rows node_cmp node_cmp_total node_cmp_exact NodeCountsSum m ordered items sums (node_row items) entry_row
    (λ e sums. ap (λ (counts : NodeCounts). entry_row (e.0, counts)) (counts_are e.0 items e.1 sums))

-- one more change, by what it does to each count and to what is due
pub node_more : (old new : NodeCounts) (item : Strength × NodeChange) → CountsOneMore (node_change Strong item) old.strong new.strong
    → CountsOneMore (node_change Weak item) old.weak new.weak → new.strong_due ≡ old.strong_due +ℤ total (node_due_change Strong item ∷ [])
    → new.weak_due ≡ old.weak_due +ℤ total (node_due_change Weak item ∷ []) → Adds NodeCountsSum IsShort old item new
node_more old new item strong weak strong_due weak_due = λ items sums fits. record {
  strong = count_more (node_change Strong) old.strong new.strong items item strong sums.strong;
  weak = count_more (node_change Weak) old.weak new.weak items item weak sums.weak;
  strong_due = sum_more (node_due_change Strong) old.strong_due new.strong_due items item strong_due sums.strong_due;
  weak_due = sum_more (node_due_change Weak) old.weak_due new.weak_due items item weak_due sums.weak_due;
}

-- what is due before one more item is small, if there are few items
pub dues_small : (counts : NodeCounts) (item : Strength × NodeChange) → CanAdd NodeCountsSum IsShort counts item → IsSmall counts.strong_due × IsSmall counts.weak_due
dues_small counts item can =
    let few = (short_halves can.0 (item ∷ []) can.2).0 in (
      sum_small (node_due_change Strong) counts.strong_due can.0 can.1.strong_due few,
      sum_small (node_due_change Weak) counts.weak_due can.0 can.1.weak_due few,
    )
