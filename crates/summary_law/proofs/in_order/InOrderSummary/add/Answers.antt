use Rattle.std.proofs.Common.{◌≡◌, Some, Option, subst, ◌∙◌, rules}
use Rattle.std.proofs.lemmas.Result.{on_ok_weaker}
use Rattle.std.specs.HashMap.Eq.{lookup_congr}
use Rattle.indexmap.specs.IndexMap.{get, index_of, keys, with_value_at}
use Rattle.indexmap.proofs.CallerLemmas.{keys-with_value_at}
use Rattle.indexmap.proofs.MapLemmas.{Found-position}
use Rattle.summary_law.specs.ByKey.{items_of, IsOwn}
use Rattle.summary_law.proofs.ByKeyLaws.{fits_at, added_part}
use Rattle.summary_law.proofs.FirstLaws.{key_there, firsts_stay}
use Rattle.summary_law.proofs.IndexLaws.{written_at}
use Rattle.summary_law.proofs.in_order.InOrderSummary.add.Goals as goal

pub add-requires : goal.add-requires
add-requires g c =
    let laws = g.met.K.Eq.laws in
    let eq = g.K.PartialEq.eq in
    let sums = g.S.Summary.sums in
    let key = c.args.item.0 in
    let items = c.requires.0 in
    let old = c.args.self.now.entries in
    let index : index_of eq old key ≡ Some c.in-Some.index = search rules in
    let found : get eq old key ≡ Some c.index_mut.result.now = (Found-position (eq key) old.entries c.in-Some.index index).value ∙ c.index_mut.ensures.value in
    let part : IsOwn sums (Some c.index_mut.result.now) (items_of eq key items)
    = subst (λ (o : Option _). IsOwn sums o (items_of eq key items)) found (c.requires.1.parts key) in
    (items_of eq key items, part.1, fits_at eq laws sums g.S.Summary.fits items key key c.args.item.1 (laws.refl key) c.requires.2)

pub returns-in-Some : goal.returns-in-Some
returns-in-Some g c =
    let laws = g.met.K.Eq.laws in
    let eq = g.K.PartialEq.eq in
    let sums = g.S.Summary.sums in
    let key = c.args.item.0 in
    let old = c.args.self.now.entries in
    let i = c.in-Some.index in
    let part = c.index_mut.result.now in
    let index : index_of eq old key ≡ Some i = search rules in
    let found : get eq old key ≡ Some part = (Found-position (eq key) old.entries i index).value ∙ c.index_mut.ensures.value in
    on_ok_weaker c.add.result
    (λ step items before fits. record {
      order =
          keys-with_value_at old i c.add.new.self
          ∙ firsts_stay eq laws (keys old) items key c.args.item.1 before.order (key_there eq key part old.entries found);
      parts =
          added_part eq laws sums g.S.Summary.fits (get eq old) (get eq (with_value_at old i c.add.new.self))
          (λ x y e. lookup_congr eq laws.congr old.entries x y e)
          key c.args.item.1 c.add.new.self
          (written_at laws old c.index_of.ensures.unique key i part c.add.new.self index)
          (λ front mine. step front (subst (λ (o : Option _). IsOwn sums o front) found mine).1)
          items before.parts fits;
    })
    c.add.ensures
