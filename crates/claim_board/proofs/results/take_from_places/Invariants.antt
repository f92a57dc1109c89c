use Rattle.std.proofs.Common.{length}
use Rattle.claim_board.specs.Results.{AreTaken}
use Rattle.claim_board.proofs.results.take_from_places.Given as goal

abbrev pub invariant-loop-i : goal.invariant-loop-i
invariant-loop-i g l = AreTaken (g.W.Work.gives l.fn.work) (length (g.W.Work.listed l.fn.work)) l.i l.places.items l.all.items
