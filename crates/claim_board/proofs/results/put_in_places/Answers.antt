use Rattle.claim_board.proofs.Filling.{fills}
use Rattle.claim_board.proofs.results.put_in_places.Goals as goal

pub loop-i-preserved-in-Some : goal.loop-i-preserved-in-Some
loop-i-preserved-in-Some g c = fills _ _ _ _ _ _ _ c.in-Some.ensures.items c.loop-i.invariant

pub loop-i-preserved : goal.loop-i-preserved
loop-i-preserved g c = fills _ _ _ _ _ _ _ c.in-Some.ensures.items c.loop-i.invariant
