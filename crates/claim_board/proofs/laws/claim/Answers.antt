use Rattle.std.proofs.Common.{refl, arith}
use Rattle.claim_board.proofs.Keeps.{claim_allowed}
use Rattle.claim_board.proofs.ViewSteps.{claim_is}
use Rattle.claim_board.proofs.laws.claim.Goals as goal

pub fetch_add-found-requires : goal.fetch_add-found-requires
fetch_add-found-requires g c =
    let r = c.requires.worker in
    let p = c.requires.place in
    (p.1, (let b = p.0.0 in omega arith), claim_allowed _ _ _ _ _ r.0 r.1 r.2)

pub returns-then-found-jobs-clause-step : goal.returns-then-found-jobs-clause-step
returns-then-found-jobs-clause-step g c =
    let r = c.requires.worker in
    let e = c.fetch_add-found.ensures.2 in
    record {
      found = c.fetch_add-found.result;
      view = e.0;
      above = e.2;
      answers = (refl, omega (arith, c.if-found-jobs.true, c.requires.jobs));
      board = claim_is _ _ r.0 c.fetch_add-found.result r.1 r.2 e.3 e.0;
    }

pub returns-else-found-jobs-clause-step : goal.returns-else-found-jobs-clause-step
returns-else-found-jobs-clause-step g c =
    let r = c.requires.worker in
    let e = c.fetch_add-found.ensures.2 in
    record {
      found = c.fetch_add-found.result;
      view = e.0;
      above = e.2;
      answers = omega (arith, c.if-found-jobs.false, c.requires.jobs);
      board = claim_is _ _ r.0 c.fetch_add-found.result r.1 r.2 e.3 e.0;
    }
