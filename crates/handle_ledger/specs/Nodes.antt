-- The references that the driver asks a process to keep to its nodes: the counts of each node, and a row for each
-- (docs/REPORT.md).
use Rattle.std.specs.Prelude.{◌≡◌, ℤ, List, map}
use Rattle.std.specs.Map.{keys_of}
use Rattle.std.specs.Ordering.{nat_cmp, on, then_cmp}
use Rattle.std.specs.declared.cmp.Ordering.{Ordering}
use Rattle.event_core.specs.Nodes.{NodeItem}
use Rattle.event_core.specs.declared.node.NodeChange.{NodeChange}
use Rattle.event_core.specs.declared.node.NodeChange.TheVariants.{Raise, Lower, Done}
use Rattle.event_core.specs.declared.node.NodeKey.{NodeKey}
use Rattle.event_core.specs.declared.strength.Strength.{Strength}
use Rattle.event_core.specs.declared.strength.Strength.TheVariants.{Strong, Weak}
use Rattle.handle_ledger.specs.declared.node_counts.NodeCounts.{NodeCounts}
use Rattle.handle_ledger.specs.declared.node_row.NodeRow.{NodeRow}
use Rattle.handle_ledger.specs.declared.nodes.NodeLedger.{NodeLedger}
use Rattle.handle_ledger.specs.Rows.{change_at}
use Rattle.handle_ledger.specs.Strengths.{change_of}
use Rattle.summary_law.specs.ByKey.{SumsByKey}
use Rattle.summary_law.specs.Count.{Change, count_of, raises, lowers, keeps, total, IsCountOf}
use Rattle.summary_law.specs.Sorted.{sorted}
use Rattle.summary_law.specs.declared.count.Count.{Count}

-- nodes are ordered by ptr, and those of one ptr by cookie
abbrev pub node_cmp : NodeKey → NodeKey → Ordering
node_cmp = then_cmp (on (λ key. key.ptr) nat_cmp) (on (λ key. key.cookie) nat_cmp)

-- what a change does to the count of its own strength; an acknowledgement keeps the count
abbrev pub node_count_change : NodeChange → Change
node_count_change Raise = raises
node_count_change Lower = lowers
node_count_change Done = keeps

-- what a change does to what is due of its own strength, which is what the driver asked for and the process has not
-- acknowledged
abbrev pub due_change : NodeChange → Change
due_change Raise = raises
due_change Lower = keeps
due_change Done = lowers

-- what a record does to the count of this strength of its node: nothing if it changes the other strength
abbrev pub node_change : Strength → Strength × NodeChange → Change
node_change strength effect = change_of strength effect.0 (node_count_change effect.1)

-- what a record does to what is due of this strength of its node: nothing if it changes the other strength
abbrev pub node_due_change : Strength → Strength × NodeChange → Change
node_due_change strength effect = change_of strength effect.0 (due_change effect.1)

-- the sum is the total of what these items do
abbrev pub IsSumOf : {I : Type 0} → (I → Change) → ℤ → List I → Type 0
IsSumOf change sum items = sum ≡ total (map change items)

-- the count of this strength of this node, over all items
abbrev pub node_count : List NodeItem → NodeKey → Strength → Count
node_count items key strength = count_of (map (change_at node_cmp (node_change strength) key) items)

-- how many references of this strength to this node are due, over all items; below 0 if more are acknowledged than the
-- driver asked for
abbrev pub due_count : List NodeItem → NodeKey → Strength → ℤ
due_count items key strength = total (map (change_at node_cmp (node_due_change strength) key) items)

-- the strong count and the weak count of a node, and what is due of each strength
abbrev pub node_counts : List NodeItem → NodeKey → NodeCounts
node_counts items key = record {
  strong = node_count items key Strong;
  weak = node_count items key Weak;
  strong_due = due_count items key Strong;
  weak_due = due_count items key Weak;
}

-- the row of a node
abbrev pub node_row : List NodeItem → NodeKey → NodeRow
node_row items key = record { key = key; counts = node_counts items key }

-- a row for each node that an item names, by rising ptr and then by rising cookie
abbrev pub node_rows : List NodeItem → List NodeRow
node_rows items = map (node_row items) (sorted node_cmp (keys_of items))

-- the counts, and what is due, are those of these changes of one node
pub record NodeCountsSum (counts : NodeCounts) (effects : List (Strength × NodeChange)) : Type 0 where
  pub strong : IsCountOf (node_change Strong) counts.strong effects
  pub weak : IsCountOf (node_change Weak) counts.weak effects
  pub strong_due : IsSumOf (node_due_change Strong) counts.strong_due effects
  pub weak_due : IsSumOf (node_due_change Weak) counts.weak_due effects

-- the ledger has the counts of each node that an item names, and of no other
abbrev pub NodeLedgerSums : NodeLedger → List NodeItem → Type 0
NodeLedgerSums ledger items = SumsByKey node_cmp NodeCountsSum ledger.nodes items

-- for whatever items the ledger sums, these are the rows
abbrev pub GivesNodeRows : NodeLedger → List NodeRow → Type 0
GivesNodeRows ledger rows =
    (items : List NodeItem) → NodeLedgerSums ledger items → rows ≡ node_rows items
