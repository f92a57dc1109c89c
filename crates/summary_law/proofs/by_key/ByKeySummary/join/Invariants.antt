use Rattle.std.specs.BTreeMap.{get}
use Rattle.std.specs.List.{IsDistinct}
use Rattle.std.specs.Map.{keys_of}
use Rattle.std.specs.Ordering.{eq_by_cmp}
use Rattle.std.specs.Vec.Iter.{into_iter_items}
use Rattle.summary_law.proofs.ByKeyLaws.{Merging}
use Rattle.summary_law.proofs.by_key.ByKeySummary.join.Given as goal

abbrev pub invariant-loop-key : goal.invariant-loop-key
invariant-loop-key g l =
    let rest = into_iter_items l.key-iterator in
    record {
      can_next : (goal.iterator-loop-key g).can_next l.key-iterator;
      is_finite : (goal.iterator-loop-key g).is_finite l.key-iterator;
      distinct : IsDistinct (eq_by_cmp g.K.Ord.cmp) (keys_of rest);
      merging : Merging (eq_by_cmp g.K.Ord.cmp) g.S.Summary.sums g.S.Summary.fits
          (get g.K.Ord.cmp l.fn.self) (get g.K.Ord.cmp l.fn.later) (get g.K.Ord.cmp l.joined) rest;
    }
