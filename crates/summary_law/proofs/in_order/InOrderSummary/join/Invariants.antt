use Rattle.std.proofs.Common.{◌≡◌, ◌++◌}
use Rattle.std.specs.List.{IsDistinct}
use Rattle.std.specs.Map.{keys_of}
use Rattle.indexmap.specs.IndexMap.{get, keys}
use Rattle.summary_law.proofs.ByKeyLaws.{Merging}
use Rattle.summary_law.proofs.FirstLaws.{unseen}
use Rattle.summary_law.proofs.in_order.InOrderSummary.join.Given as goal

abbrev pub invariant-loop-key : goal.invariant-loop-key
invariant-loop-key g l =
    let eq = g.K.PartialEq.eq in
    let now = keys l.joined.entries in
    let earlier = keys l.fn.self.entries in
    record {
      can_next : (goal.iterator-loop-key g).can_next l.key-iterator;
      is_finite : (goal.iterator-loop-key g).is_finite l.key-iterator;
      distinct : IsDistinct eq (keys_of l.key-iterator);
      order : now ++ unseen eq now (keys_of l.key-iterator) ≡ earlier ++ unseen eq earlier (keys l.fn.later.entries);
      merging : Merging eq g.S.Summary.sums g.S.Summary.fits
          (get eq l.fn.self.entries) (get eq l.fn.later.entries) (get eq l.joined.entries) l.key-iterator;
    }
