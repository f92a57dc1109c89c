use Rattle.std.proofs.Common.{◌≡◌, None, Some, OnOk, Option, slice_set, sym, ap, subst, ◌∙◌, rules}
use Rattle.std.proofs.lemmas.Cmp.{eq_by_cmp_equiv}
use Rattle.std.proofs.lemmas.Result.{on_ok_weaker}
use Rattle.std.specs.BTreeMap.{BTreeMap, get}
use Rattle.std.specs.HashMap.Eq.{lookup_congr}
use Rattle.std.specs.Ordering.{eq_by_cmp}
use Rattle.summary_law.proofs.ByKeyLaws.{fits_at, added_part}
use Rattle.summary_law.proofs.PlaceLaws.{entry_at, found_part, index_written, no_part, part_written}
use Rattle.summary_law.specs.ByKey.{EachFits, IsOwn, SumsByKey, items_of}
use Rattle.summary_law.specs.Places.{IsPut, part_map}
use Rattle.summary_law.specs.Summary.{Adds}
use Rattle.summary_law.proofs.by_key.ByKeySummary.add.Goals as goal

pub add-requires : goal.add-requires
add-requires g c =
    let total = g.met.K.Ord.total in
    let laws = eq_by_cmp_equiv total in
    let cmp = g.K.Ord.cmp in
    let eq = eq_by_cmp cmp in
    let sums = g.S.Summary.sums in
    let key = c.args.item.0 in
    let items = c.requires.0 in
    let index = c.self.inside.index in
    let parts = c.self.inside.parts.items in
    let e = c.index_mut.result.now in
    let at : get cmp index key ≡ Some c.in-Some.place = search rules in
    let there = entry_at cmp total index parts c.self.invariant key c.in-Some.place e at c.index_mut.ensures.value in
    let found : get cmp c.args.self.now key ≡ Some e.1
    = ap (λ m. get cmp m key) (sym c.self.view_is) ∙ found_part cmp total index parts c.self.invariant key c.in-Some.place e at there in
    let part : IsOwn sums (Some e.1) (items_of eq key items) = subst (λ (o : Option _). IsOwn sums o (items_of eq key items)) found (c.requires.1 key) in
    (items_of eq key items, part.1, fits_at eq laws sums g.S.Summary.fits items key key c.args.item.1 (laws.refl key) c.requires.2)

pub invariant_of-self : goal.invariant_of-self
invariant_of-self g c =
    let total = g.met.K.Ord.total in
    let index = c.self.inside.index in
    let parts = c.self.inside.parts.items in
    let e = c.index_mut.result.now in
    let at : get g.K.Ord.cmp index c.args.item.0 ≡ Some c.in-Some.place = search rules in
    index_written g.K.Ord.cmp total index parts c.self.invariant e.0 c.in-Some.place e.1 c.add.new.self
    (entry_at g.K.Ord.cmp total index parts c.self.invariant c.args.item.0 c.in-Some.place e at c.index_mut.ensures.value)

pub add_first-requires-clause-missing : goal.add_first-requires-clause-missing
add_first-requires-clause-missing g c =
    let none : get g.K.Ord.cmp c.self.inside.index c.args.item.0 ≡ None = search rules in
    no_part g.K.Ord.cmp g.met.K.Ord.total c.self.inside.index c.self.inside.parts.items c.self.invariant c.args.item.0 none

pub returns-in-Some : goal.returns-in-Some
returns-in-Some g c =
    let total = g.met.K.Ord.total in
    let laws = eq_by_cmp_equiv total in
    let cmp = g.K.Ord.cmp in
    let eq = eq_by_cmp cmp in
    let sums = g.S.Summary.sums in
    let key = c.args.item.0 in
    let index = c.self.inside.index in
    let parts = c.self.inside.parts.items in
    let e = c.index_mut.result.now in
    let new = c.add.new.self in
    let written = part_map index (slice_set parts c.in-Some.place (e.0, new)) in
    let at : get cmp index key ≡ Some c.in-Some.place = search rules in
    let there = entry_at cmp total index parts c.self.invariant key c.in-Some.place e at c.index_mut.ensures.value in
    let found : get cmp c.args.self.now key ≡ Some e.1
    = ap (λ m. get cmp m key) (sym c.self.view_is) ∙ found_part cmp total index parts c.self.invariant key c.in-Some.place e at there in
    let puts : IsPut cmp c.args.self.now key new written
    = subst (λ m. IsPut cmp m key new written) c.self.view_is (part_written cmp total index parts c.self.invariant key e.0 c.in-Some.place e.1 new at there) in
    on_ok_weaker c.add.result
    (λ step.
    added_part eq laws sums g.S.Summary.fits (get cmp c.args.self.now) (get cmp written)
    (λ x y same. lookup_congr eq laws.congr c.args.self.now.entries x y same)
    key c.args.item.1 new puts
    (λ front part. step front (subst (λ (o : Option _). IsOwn sums o front) found part).1))
    c.add.ensures

pub returns-in-None : goal.returns-in-None
returns-in-None g c =
    subst
    (λ (m : BTreeMap _ _). OnOk c.add_first.result
    (Adds (SumsByKey g.K.Ord.cmp g.S.Summary.sums) (EachFits (eq_by_cmp g.K.Ord.cmp) g.S.Summary.fits) m c.args.item c.add_first.new.self))
    c.self.view_is c.add_first.ensures
