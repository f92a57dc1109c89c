use Rattle.std.proofs.Common.{rules, arith}
use Rattle.claim_board.proofs.Keeps.{look_allowed}
use Rattle.claim_board.proofs.ViewSteps.{look_is}
use Rattle.claim_board.proofs.laws.look.Goals as goal

pub load-found-requires : goal.load-found-requires
load-found-requires g c =
    let r = c.requires.worker in
    let p = c.requires.place in
    (p.1, (let b = p.0.0 in omega arith), look_allowed _ _ _ _ _ r.0 r.1 r.2 r.3 r.4)

pub returns-clause-step : goal.returns-clause-step
returns-clause-step g c =
    let r = c.requires.worker in
    let e = c.load-found.ensures.2 in
    record {
      found = c.load-found.result;
      view = e.0;
      answers = search rules;
      board = look_is _ _ r.0 r.1 c.load-found.result c.args.start r.2 r.3 r.4 r.5 (omega arith) e.2 e.3 e.0;
    }
