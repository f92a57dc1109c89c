use Rattle.std.proofs.Common.{◌≡◌, Some, None, sym, ap, ◌∙◌, rules}
use Rattle.std.specs.BTreeMap.{get}
use Rattle.summary_law.proofs.PlaceLaws.{entry_at, found_part, no_part}
use Rattle.summary_law.proofs.by_key.ByKey.get.Goals as goal

pub returns-in-Some : goal.returns-in-Some
returns-in-Some g c =
    let cmp = g.K.Ord.cmp in
    let index = c.self.inside.index in
    let parts = c.self.inside.parts.items in
    let place = c.in-Some.place.now in
    let at : get cmp index c.args.key ≡ Some place = search rules in
    let there = entry_at cmp g.met.K.Ord.total index parts c.self.invariant c.args.key place c.index.result.now at c.index.ensures in
    sym (ap (λ m. get cmp m c.args.key) (sym c.self.view_is)
    ∙ found_part cmp g.met.K.Ord.total index parts c.self.invariant c.args.key place c.index.result.now at there)

pub returns-in-None : goal.returns-in-None
returns-in-None g c =
    let cmp = g.K.Ord.cmp in
    let index = c.self.inside.index in
    let none : get cmp index c.args.key ≡ None = search rules in
    sym (ap (λ m. get cmp m c.args.key) (sym c.self.view_is)
    ∙ no_part cmp g.met.K.Ord.total index c.self.inside.parts.items c.self.invariant c.args.key none)
