use Rattle.std.proofs.Common.{take}
use Rattle.summary_law.proofs.list.summary_of.Given as goal

abbrev pub invariant-loop-item : goal.invariant-loop-item
invariant-loop-item g l = g.S.Summary.sums l.summary (take l.item-index l.items)
