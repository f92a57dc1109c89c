use Rattle.std.proofs.Common.{arith}
use Rattle.claim_board.proofs.Keeps.{lower_allowed}
use Rattle.claim_board.proofs.ViewSteps.{lower_is}
use Rattle.claim_board.proofs.laws.lower.Goals as goal

pub fetch_min-requires : goal.fetch_min-requires
fetch_min-requires g c =
    let r = c.requires.worker in
    let p = c.requires.place in
    (p.1, (let b = p.0.0 in omega arith), lower_allowed _ _ _ _ _ r.0 r.1 _ r.2 r.3 r.4 r.5 (omega arith))

pub returns-clause-step : goal.returns-clause-step
returns-clause-step g c =
    let r = c.requires.worker in
    let e = c.fetch_min.ensures.2 in
    record { view = e.0; board = lower_is _ _ r.0 r.1 c.args.place r.2 r.3 r.4 r.5 e.4 e.2 e.3 e.0 }
