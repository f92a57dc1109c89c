use Rattle.std.proofs.Common.{length}
use Rattle.audit_judge.proofs.PieceLaws.{ArePiecesBefore}
use Rattle.audit_judge.proofs.plan.Plan.new.Given as goal

-- the pieces so far, and the frames that are left
abbrev pub invariant-loop-left : goal.invariant-loop-left
invariant-loop-left l = ArePiecesBefore l.fn.piece.frames l.fn.frames l.pieces.items l.left

abbrev pub decreases-loop-left : goal.decreases-loop-left
decreases-loop-left l = length l.left
