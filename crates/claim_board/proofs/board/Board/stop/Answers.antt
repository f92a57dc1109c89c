use Rattle.std.proofs.Common.{rules, ◌≡◌, arith, slice_get, Some, true, false, length-set}
use Rattle.claim_board.proofs.Faults.{one_stopped}
use Rattle.claim_board.proofs.board.Board.stop.Goals as goal

pub invariant_of-self : goal.invariant_of-self
invariant_of-self c =
    let i = c.self.invariant in
    let free : slice_get c.self.inside.stopped.items c.args.w ≡ Some false = search rules in
    let more = one_stopped c.self.inside.stopped.items c.args.w free in
    let l = length-set c.self.inside.stopped.items c.args.w true in
    (i.0, (let m = i.1 in omega arith), (let n = i.2 in omega arith), i.3)
