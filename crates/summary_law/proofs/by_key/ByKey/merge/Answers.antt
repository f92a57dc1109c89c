use Rattle.std.proofs.Common.{◌≡◌, None, Some, IfSome, Option, slice_set, sym, ap, subst, ◌∙◌, rules}
use Rattle.std.proofs.lemmas.Cmp.{eq_by_cmp_equiv}
use Rattle.std.proofs.lemmas.Result.{on_ok_weaker}
use Rattle.std.specs.BTreeMap.{get}
use Rattle.std.specs.Ordering.{eq_by_cmp}
use Rattle.summary_law.proofs.ByKeyLaws.{alone, together}
use Rattle.summary_law.proofs.PlaceLaws.{entry_at, found_part, index_written, no_part, part_written}
use Rattle.summary_law.specs.Places.{IsPut, part_map}
use Rattle.summary_law.specs.Summary.{CanJoin}
use Rattle.summary_law.proofs.by_key.ByKey.merge.Goals as goal

pub join-requires : goal.join-requires
join-requires g c =
    let total = g.met.K.Ord.total in
    let cmp = g.K.Ord.cmp in
    let index = c.self.inside.index in
    let parts = c.self.inside.parts.items in
    let e = c.index_mut.result.now in
    let at : get cmp index c.args.key ≡ Some c.in-Some.place = search rules in
    let there = entry_at cmp total index parts c.self.invariant c.args.key c.in-Some.place e at c.index_mut.ensures.value in
    let found : get cmp c.args.self.now c.args.key ≡ Some c.replace-mine.result
    = ap (λ m. get cmp m c.args.key) (sym c.self.view_is) ∙ found_part cmp total index parts c.self.invariant c.args.key c.in-Some.place e at there
    ∙ ap Some (sym c.replace-mine.ensures.value) in
    subst (λ (o : Option _). IfSome o (λ mine. CanJoin g.S.Summary.sums g.S.Summary.fits mine c.args.part)) found c.requires

pub invariant_of-self : goal.invariant_of-self
invariant_of-self g c =
    let total = g.met.K.Ord.total in
    let index = c.self.inside.index in
    let parts = c.self.inside.parts.items in
    let e = c.index_mut.result.now in
    let at : get g.K.Ord.cmp index c.args.key ≡ Some c.in-Some.place = search rules in
    index_written g.K.Ord.cmp total index parts c.self.invariant e.0 c.in-Some.place e.1 c.replace-mine.new.dest
    (entry_at g.K.Ord.cmp total index parts c.self.invariant c.args.key c.in-Some.place e at c.index_mut.ensures.value)

pub invariant_of-self-in-Some : goal.invariant_of-self-in-Some
invariant_of-self-in-Some g c =
    let total = g.met.K.Ord.total in
    let index = c.self.inside.index in
    let parts = c.self.inside.parts.items in
    let e = c.index_mut.result.now in
    let at : get g.K.Ord.cmp index c.args.key ≡ Some c.in-Some.place = search rules in
    index_written g.K.Ord.cmp total index parts c.self.invariant e.0 c.in-Some.place e.1 c.in_ok-slot-in-Some.field-0
    (entry_at g.K.Ord.cmp total index parts c.self.invariant c.args.key c.in-Some.place e at c.index_mut.ensures.value)

pub insert-requires : goal.insert-requires
insert-requires g c =
    let none : get g.K.Ord.cmp c.self.inside.index c.args.key ≡ None = search rules in
    no_part g.K.Ord.cmp g.met.K.Ord.total c.self.inside.index c.self.inside.parts.items c.self.invariant c.args.key none

pub returns-in_ok-slot-in-Some : goal.returns-in_ok-slot-in-Some
returns-in_ok-slot-in-Some g c =
    let total = g.met.K.Ord.total in
    let cmp = g.K.Ord.cmp in
    let index = c.self.inside.index in
    let parts = c.self.inside.parts.items in
    let e = c.index_mut.result.now in
    let merged = c.in_ok-slot-in-Some.field-0 in
    let at : get cmp index c.args.key ≡ Some c.in-Some.place = search rules in
    let there = entry_at cmp total index parts c.self.invariant c.args.key c.in-Some.place e at c.index_mut.ensures.value in
    let found : get cmp c.args.self.now c.args.key ≡ Some c.replace-mine.result
    = ap (λ m. get cmp m c.args.key) (sym c.self.view_is) ∙ found_part cmp total index parts c.self.invariant c.args.key c.in-Some.place e at there
    ∙ ap Some (sym c.replace-mine.ensures.value) in
    record {
      merged = merged;
      put = subst (λ m. IsPut cmp m c.args.key merged (part_map index (slice_set parts c.in-Some.place (e.0, merged)))) c.self.view_is
          (part_written cmp total index parts c.self.invariant c.args.key e.0 c.in-Some.place e.1 merged at there);
      sums = together (eq_by_cmp cmp) (eq_by_cmp_equiv total) g.S.Summary.sums g.S.Summary.fits (get cmp c.args.self.now c.args.key)
          c.replace-mine.result c.args.part merged found c.in_ok-slot-in-Some.ensures;
    }

pub returns-in-None : goal.returns-in-None
returns-in-None g c =
    let total = g.met.K.Ord.total in
    let cmp = g.K.Ord.cmp in
    let at : get cmp c.self.inside.index c.args.key ≡ None = search rules in
    let none : get cmp c.args.self.now c.args.key ≡ None
    = ap (λ m. get cmp m c.args.key) (sym c.self.view_is)
    ∙ no_part cmp total c.self.inside.index c.self.inside.parts.items c.self.invariant c.args.key at in
    on_ok_weaker c.insert.result
    (λ puts. record {
      merged = c.args.part;
      put = subst (λ m. IsPut cmp m c.args.key c.args.part c.insert.new.self) c.self.view_is puts;
      sums = alone (eq_by_cmp cmp) (eq_by_cmp_equiv total) g.S.Summary.sums g.S.Summary.fits (get cmp c.args.self.now c.args.key) c.args.part none;
    })
    c.insert.ensures
