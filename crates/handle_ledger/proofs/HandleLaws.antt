-- The rows of handles.
use Rattle.std.proofs.Common.{◌≡◌, ℕ, List, ap, ap₂, ◌∙◌, sym}
use Rattle.std.proofs.lemmas.Cmp.{nat_cmp_total}
use Rattle.std.proofs.lemmas.List.{map-id}
use Rattle.std.proofs.lemmas.Map.Lookups.{exact_unsigned}
use Rattle.std.specs.BTreeMap.{BTreeMap, IsOrdered}
use Rattle.std.specs.Ordering.{eq_by_cmp, nat_cmp}
use Rattle.event_core.specs.Handles.{HandleItem}
use Rattle.event_core.specs.declared.handle.HandleChange.{HandleChange}
use Rattle.event_core.specs.declared.strength.Strength.{Strength}
use Rattle.event_core.specs.declared.strength.Strength.TheVariants.{Strong, Weak}
use Rattle.handle_ledger.proofs.Counting.{count_more}
use Rattle.handle_ledger.proofs.KeyLaws.{counted_at}
use Rattle.handle_ledger.specs.Handles.{handle_change, handle_counts, handle_rows, HandleCountsSum}
use Rattle.handle_ledger.specs.declared.handle_counts.HandleCounts.{HandleCounts}
use Rattle.summary_law.proofs.SortedLaws.{map_rows}
use Rattle.summary_law.specs.ByKey.{SumsByKey, items_of}
use Rattle.summary_law.specs.Count.{CountsOneMore}
use Rattle.summary_law.specs.Fits.{IsShort}
use Rattle.summary_law.specs.Summary.{Adds}
use Rattle.summary_law.specs.declared.count.Count.{Count}

-- the counts of the items of a handle are its counts among all items
pub counts_are : (handle : ℕ) (items : List HandleItem) (counts : HandleCounts) → HandleCountsSum counts (items_of (eq_by_cmp nat_cmp) handle items)
    → counts ≡ handle_counts items handle
counts_are handle items counts sums =
    ap₂ (λ (strong weak : Count). let counts : HandleCounts = record { strong = strong; weak = weak } in counts)
    (counted_at nat_cmp (handle_change Strong) handle counts.strong items sums.strong)
    (counted_at nat_cmp (handle_change Weak) handle counts.weak items sums.weak)

pub rows_are : (m : BTreeMap ℕ HandleCounts) → IsOrdered nat_cmp m → (items : List HandleItem)
    → SumsByKey nat_cmp HandleCountsSum m items → m.entries ≡ handle_rows items
rows_are m ordered items sums =
    sym (map-id m.entries)
    ∙ map_rows nat_cmp nat_cmp_total exact_unsigned HandleCountsSum m ordered items sums (λ handle. (handle, handle_counts items handle)) (λ e. e)
    (λ e sums. ap (λ (counts : HandleCounts). (e.0, counts)) (counts_are e.0 items e.1 sums))

-- one more change, by what it does to each count
pub handle_more : (old new : HandleCounts) (item : Strength × HandleChange) → CountsOneMore (handle_change Strong item) old.strong new.strong
    → CountsOneMore (handle_change Weak item) old.weak new.weak → Adds HandleCountsSum IsShort old item new
handle_more old new item strong weak = λ items sums fits. record {
  strong = count_more (handle_change Strong) old.strong new.strong items item strong sums.strong;
  weak = count_more (handle_change Weak) old.weak new.weak items item weak sums.weak;
}
