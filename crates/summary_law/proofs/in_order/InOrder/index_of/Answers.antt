use Rattle.std.proofs.Common.{sym, rules}
use Rattle.summary_law.proofs.IndexLaws.{index_here}
use Rattle.summary_law.proofs.in_order.InOrder.index_of.Goals as goal

pub returns-in-Some-clause-index : goal.returns-in-Some-clause-index
returns-in-Some-clause-index g c =
    sym (index_here g.met.K.Eq.laws c.args.self.now.entries c.as_slice.ensures.unique c.args.key c.args.guess
    c.in-Some.there.now c.in-Some._part.now (search rules) (search rules))
