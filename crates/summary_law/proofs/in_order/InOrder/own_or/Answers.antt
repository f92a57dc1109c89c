use Rattle.std.proofs.Common.{◌≡◌, Option, Some, None, sym, ap, ◌∙◌, rules}
use Rattle.std.specs.Option.{unwrap_or}
use Rattle.indexmap.specs.IndexMap.{get, index_of}
use Rattle.indexmap.proofs.MapLemmas.{Found-position, Missing-position}
use Rattle.summary_law.proofs.in_order.InOrder.own_or.Goals as goal

pub returns-in-Some : goal.returns-in-Some
returns-in-Some g c =
    let eq = g.K.PartialEq.eq in
    let entries = c.args.self.now.entries in
    let index : index_of eq entries c.args.key ≡ Some c.in-Some.index = search rules in
    let found : get eq entries c.args.key ≡ Some c.index.result.now = (Found-position (eq c.args.key) entries.entries c.in-Some.index index).value ∙ c.index.ensures in
    sym (ap (λ (o : Option _). unwrap_or o c.args.none.now) found)

pub returns-in-None : goal.returns-in-None
returns-in-None g c =
    let eq = g.K.PartialEq.eq in
    let entries = c.args.self.now.entries in
    let index : index_of eq entries c.args.key ≡ None = search rules in
    let found : get eq entries c.args.key ≡ None = (Missing-position (eq c.args.key) entries.entries index).value in
    sym (ap (λ (o : Option _). unwrap_or o c.args.none.now) found)
