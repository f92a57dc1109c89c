use Rattle.std.proofs.Common.{◌≡◌, Some, length, slice_get, true, refl, sym, ◌∙◌, rules}
use Rattle.std.proofs.lemmas.Cmp.{eq_by_cmp_equiv}
use Rattle.std.proofs.lemmas.Option.{slice_get_read}
use Rattle.std.specs.Ordering.{eq_by_cmp}
use Rattle.summary_law.proofs.PlaceLaws.{guessed}
use Rattle.summary_law.proofs.by_key.place_of.Goals as goal

pub returns-in-Some : goal.returns-in-Some
returns-in-Some g c =
    let cmp = g.K.Ord.cmp in
    let laws = eq_by_cmp_equiv g.met.K.Ord.total in
    let parts = c.args.parts.now in
    let e = c.in-Some.field-0.now in
    let lookup = c.in-Some.ensures.lookup in
    let there : slice_get parts c.at-guess.result ≡ Some e
    = slice_get_read parts (length parts) c.at-guess.result e refl lookup.3.0 lookup.1 in
    let equal : g.K.PartialEq.eq e.0 c.args.key ≡ true = search rules in
    let same : eq_by_cmp cmp c.args.key e.0 ≡ true = laws.symm c.args.key e.0 ∙ sym (g.met.K.Ord.matches_eq e.0 c.args.key) ∙ equal in
    sym (guessed cmp g.met.K.Ord.total c.args.index.now parts c.requires c.args.key c.at-guess.result e there same)
