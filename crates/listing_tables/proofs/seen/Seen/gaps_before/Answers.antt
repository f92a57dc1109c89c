use Rattle.std.proofs.Common.{ℕ, ◌<◌, ◌≤◌, List, leb, subst, sym, rules}
use Rattle.std.proofs.lemmas.List.Sorted.{IsPartitionPoint-from_clause, IsPartitionedBy-leb}
use Rattle.std.proofs.lemmas.Result.{IfOk-weaker}
use Rattle.std.specs.List.Sorted.{IsNonDecreasing, IsPartitionPoint}
use Rattle.listing_tables.specs.Gaps.{AreGapsBefore}
use Rattle.listing_tables.proofs.SeenLaws.{split_by}
use Rattle.listing_tables.proofs.seen.Seen.gaps_before.Goals as goal

pub returns : goal.returns
returns c =
    let gaps = c.as_slice.result.now in
    let value = c.as_slice.ensures.value in
    let place = c.args.place in
    let count = c.partition_point-count.result in
    let before : AreGapsBefore c.args.self.now place count = λ rise.
    subst (λ (l : List ℕ). IsPartitionPoint (λ (gap : ℕ). gap ≤ place) (λ (gap : ℕ). place < gap) l count) value
    (split_by gaps place count
    (IsPartitionPoint-from_clause (λ (g : ℕ). leb g place) gaps count c.partition_point-count.ensures.partitioned
    (IsPartitionedBy-leb (λ (g : ℕ). g) gaps place (subst (λ (l : List ℕ). IsNonDecreasing l) (sym value) rise))
    (λ a r q k. search rules))) in
    IfOk-weaker c.narrow.result _ (AreGapsBefore c.args.self.now place)
    (λ n is. subst (AreGapsBefore c.args.self.now place) (sym is) before) c.narrow.ensures
