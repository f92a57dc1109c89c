use Rattle.std.proofs.Common.{length, vec_len}
use Rattle.claim_board.specs.Results.{AreFilling}
use Rattle.claim_board.proofs.results.put_in_places.Given as goal

abbrev pub invariant-loop-i : goal.invariant-loop-i
invariant-loop-i g l = AreFilling (g.W.Work.gives l.work) (length (g.W.Work.listed l.work)) l.list.items l.places.items

abbrev pub decreases-loop-i : goal.decreases-loop-i
decreases-loop-i g l = vec_len l.list
