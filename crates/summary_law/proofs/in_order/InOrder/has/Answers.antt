use Rattle.std.proofs.Common.{◌≡◌, Some, None, is_some, sym, ap, ◌∙◌, rules}
use Rattle.indexmap.specs.IndexMap.{index_of}
use Rattle.indexmap.proofs.MapLemmas.{some_index}
use Rattle.summary_law.proofs.in_order.InOrder.has.Goals as goal

pub returns-in-Some-clause-has : goal.returns-in-Some-clause-has
returns-in-Some-clause-has g c =
    let index : index_of g.K.PartialEq.eq c.args.self.now.entries c.args.key ≡ Some c.in-Some.index = search rules in
    sym (ap is_some index) ∙ some_index (g.K.PartialEq.eq c.args.key) c.args.self.now.entries.entries

pub returns-in-None-clause-has : goal.returns-in-None-clause-has
returns-in-None-clause-has g c =
    let index : index_of g.K.PartialEq.eq c.args.self.now.entries c.args.key ≡ None = search rules in
    sym (ap is_some index) ∙ some_index (g.K.PartialEq.eq c.args.key) c.args.self.now.entries.entries
