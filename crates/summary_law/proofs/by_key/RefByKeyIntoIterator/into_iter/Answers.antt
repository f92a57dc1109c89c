use Rattle.std.proofs.Common.{ap, subst}
use Rattle.std.specs.BTreeMap.{IsOrdered}
use Rattle.summary_law.proofs.PlaceLaws.{places_of, parts_ordered}
use Rattle.summary_law.proofs.by_key.RefByKeyIntoIterator.into_iter.Goals as goal

pub invariant_of-result : goal.invariant_of-result
invariant_of-result g c =
    rw (c.as_slice.ensures.value, c.iter.ensures.rest)
    (places_of g.K.Ord.cmp g.met.K.Ord.total c.self.inside.index c.self.inside.parts.items c.self.invariant)

pub returns : goal.returns
returns g c =
    let ordered = parts_ordered g.K.Ord.cmp g.met.K.Ord.total c.self.inside.index c.self.inside.parts.items c.self.invariant in
    record {
      into_iter_gives = (
        rw (c.as_slice.ensures.value, c.iter.ensures.rest) (ap (λ m. m.entries) c.self.view_is),
        subst (IsOrdered g.K.Ord.cmp) c.self.view_is ordered,
      );
    }
