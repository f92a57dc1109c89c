use Rattle.std.proofs.Common.{List, ◌∷◌, ◌++◌, ◌≡◌, [], Option, subst}
use Rattle.std.proofs.lemmas.Cmp.{eq_by_cmp_equiv}
use Rattle.std.proofs.lemmas.Result.{on_ok_weaker}
use Rattle.std.specs.BTreeMap.{get}
use Rattle.std.specs.HashMap.Eq.{lookup_congr}
use Rattle.std.specs.Ordering.{eq_by_cmp}
use Rattle.summary_law.specs.ByKey.{items_of, IsOwn}
use Rattle.summary_law.proofs.ByKeyLaws.{fits_at, added_part}
use Rattle.summary_law.proofs.by_key.ByKey.add_first.Goals as goal

pub add-requires : goal.add-requires
add-requires g c =
    let laws = eq_by_cmp_equiv g.met.K.Ord.total in
    let eq = eq_by_cmp g.K.Ord.cmp in
    let sums = g.S.Summary.sums in
    let key = c.args.key in
    let items = c.requires.fits.0 in
    let nil : items_of eq key items ≡ [] = subst (λ (o : Option _). IsOwn sums o (items_of eq key items)) c.requires.missing (c.requires.fits.1 key) in (
      [],
      c.empty-part.ensures,
      subst (λ (t : List _). g.S.Summary.fits (t ++ c.args.inner ∷ [])) nil
          (fits_at eq laws sums g.S.Summary.fits items key key c.args.inner (laws.refl key) c.requires.fits.2),
    )

pub returns : goal.returns
returns g c =
    let laws = eq_by_cmp_equiv g.met.K.Ord.total in
    let cmp = g.K.Ord.cmp in
    let eq = eq_by_cmp cmp in
    let sums = g.S.Summary.sums in
    on_ok_weaker c.insert.result
    (λ puts.
    added_part eq laws sums g.S.Summary.fits (get cmp c.args.self.now) (get cmp c.insert.new.self)
    (λ x y e. lookup_congr eq laws.congr c.args.self.now.entries x y e)
    c.args.key c.args.inner c.add.new.self puts
    (λ front part fits.
    let nil : front ≡ [] = subst (λ (o : Option _). IsOwn sums o front) c.requires.missing part in
    rw nil (c.in_ok-add.ensures [] c.empty-part.ensures (rw nil at fits))))
    c.insert.ensures
