use Rattle.std.proofs.Common.{List, ◌∷◌, ◌++◌, ◌≡◌, [], None, Option, subst, ◌∙◌}
use Rattle.std.specs.HashMap.Eq.{lookup_congr}
use Rattle.indexmap.specs.IndexMap.{get}
use Rattle.indexmap.proofs.CallerLemmas.{insert_entry-new}
use Rattle.indexmap.proofs.MapLemmas.{Missing-position}
use Rattle.summary_law.specs.ByKey.{items_of, IsOwn}
use Rattle.summary_law.proofs.ByKeyLaws.{fits_at, added_part}
use Rattle.summary_law.proofs.FirstLaws.{key_missing, entries_grow}
use Rattle.summary_law.proofs.in_order.InOrder.add_first.Goals as goal

pub add-requires : goal.add-requires
add-requires g c =
    let laws = g.met.K.Eq.laws in
    let eq = g.K.PartialEq.eq in
    let sums = g.S.Summary.sums in
    let key = c.args.key in
    let items = c.requires.fits.0 in
    let old = c.args.self.now.entries in
    let found : get eq old key ≡ None = (Missing-position (eq key) old.entries c.requires.missing).value in
    let nil : items_of eq key items ≡ [] = subst (λ (o : Option _). IsOwn sums o (items_of eq key items)) found (c.requires.fits.1.parts key) in (
      [],
      c.empty-part.ensures,
      subst (λ (t : List _). g.S.Summary.fits (t ++ c.args.inner ∷ [])) nil
          (fits_at eq laws sums g.S.Summary.fits items key key c.args.inner (laws.refl key) c.requires.fits.2),
    )

pub returns : goal.returns
returns g c = λ items before fits.
    let laws = g.met.K.Eq.laws in
    let eq = g.K.PartialEq.eq in
    let sums = g.S.Summary.sums in
    let key = c.args.key in
    let part = c.add.new.self in
    let old = c.args.self.now.entries in
    let found : get eq old key ≡ None = (Missing-position (eq key) old.entries c.requires.missing).value in
    let grown = c.in_ok-index.ensures in
    let entries : c.insert_full.new.self.entries ≡ old.entries ++ (key, part) ∷ []
    = grown.entries ∙ insert_entry-new eq old key part found in
    record {
      order =
          entries_grow eq laws old.entries c.insert_full.new.self.entries items key part c.args.inner entries before.order
          (key_missing eq key old.entries found);
      parts =
          added_part eq laws sums g.S.Summary.fits (get eq old) (get eq c.insert_full.new.self)
          (λ x y e. lookup_congr eq laws.congr old.entries x y e)
          key c.args.inner part grown.updates.0
          (λ front mine step.
          let nil : front ≡ [] = subst (λ (o : Option _). IsOwn sums o front) found mine in
          rw nil (c.in_ok-add.ensures [] c.empty-part.ensures (rw nil at step)))
          items before.parts fits;
    }
