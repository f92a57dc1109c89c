use Rattle.std.proofs.Common.{rules, ◌≡◌, ◌∙◌, ap, sym, Some, None}
use Rattle.claim_board.specs.Running.{job_at}
use Rattle.claim_board.specs.Steps.{worker_of}
use Rattle.claim_board.proofs.Turns.{skips, finds, gains, lowers, fault_of, same_after_look, same_after_lower}
use Rattle.claim_board.proofs.worker.end_job.Goals as goal

pub look-requires-clause-place : goal.look-requires-clause-place
look-requires-clause-place g c = c.requires.1.1.1.1.0

pub look-requires-clause-worker : goal.look-requires-clause-worker
look-requires-clause-worker g c =
    let q = c.requires.1.1.1.1.1 in
    (worker_of c.args.seat.now.me.0, c.args.i, g.rest, q.0.one, q.0.claimed, c.start.ensures ∙ ap (λ js. (job_at js c.args.i).start) (sym q.0.over))

pub returns-then-look-clause-same : goal.returns-then-look-clause-same
returns-then-look-clause-same g c = same_after_look _ _ c.look.ensures.step.found c.look.ensures.same c.look.ensures.step.view

pub returns-then-look-clause-ended : goal.returns-then-look-clause-ended
returns-then-look-clause-ended g c =
    let s = c.look.ensures.step in
    let q = c.requires.1.1.1.1.1 in
    skips _ _ _ _ (g.W.Work.gives c.args.work.now) _ q.1.1 _ s.found _ s.view c.start.ensures (sym s.answers ∙ c.if-look.true) q.0

pub lower-requires-clause-place : goal.lower-requires-clause-place
lower-requires-clause-place g c = let p = c.requires.1.1.1.1.0 in (p.0, c.look.ensures.same.0 ∙ p.1)

pub lower-requires-clause-worker : goal.lower-requires-clause-worker
lower-requires-clause-worker g c =
    let s = c.look.ensures.step in
    let q = c.requires.1.1.1.1.1 in
    let gives = g.W.Work.gives c.args.work.now in
    let jobs = g.W.Work.listed c.args.work.now in
    let i = c.args.i in
    let u = c.look.new.seat.me.0 in
    let place = c.in-Err-At.place in
    let fault : (job_at jobs i).fault ≡ Some place = fault_of (gives i) (job_at jobs i) c.run-outcome.result place (search rules) c.run-outcome.ensures in
    let h = finds jobs i g.rest c.args.seat.now.me.0 gives c.args.results.now.items q.1.1 u s.found c.start.result s.view c.start.ensures
    (sym s.answers ∙ c.if-look.false) q.0 (Some place) fault in
    (worker_of u, i, g.rest, h.one, h.claimed, ap (λ js. (job_at js i).fault) h.over ∙ fault)

pub returns-in_ok-push-in-Ok-clause-ended : goal.returns-in_ok-push-in-Ok-clause-ended
returns-in_ok-push-in-Ok-clause-ended g c =
    let s = c.look.ensures.step in
    let q = c.requires.1.1.1.1.1 in
    let gives = g.W.Work.gives c.args.work.now in
    let jobs = g.W.Work.listed c.args.work.now in
    let i = c.args.i in
    let v = c.args.seat.now.me.0 in
    let u = c.look.new.seat.me.0 in
    let list = c.args.results.now.items in
    let h = finds jobs i g.rest v gives list q.1.1 u s.found c.start.result s.view c.start.ensures
    (sym s.answers ∙ c.if-look.false) q.0 None c.in-Ok.ensures.1 in
    gains jobs i g.rest v gives list q.1.1 u c.in-Ok.out c.push.new.self.items h c.in-Ok.ensures.0 c.in_ok-push-in-Ok.ensures.items

pub returns-in-Err-At-clause-ended : goal.returns-in-Err-At-clause-ended
returns-in-Err-At-clause-ended g c =
    let s = c.look.ensures.step in
    let q = c.requires.1.1.1.1.1 in
    let gives = g.W.Work.gives c.args.work.now in
    let jobs = g.W.Work.listed c.args.work.now in
    let i = c.args.i in
    let u = c.look.new.seat.me.0 in
    let list = c.args.results.now.items in
    let place = c.in-Err-At.place in
    let fault : (job_at jobs i).fault ≡ Some place = fault_of (gives i) (job_at jobs i) c.run-outcome.result place (search rules) c.run-outcome.ensures in
    let h = finds jobs i g.rest c.args.seat.now.me.0 gives list q.1.1 u s.found c.start.result s.view c.start.ensures
    (sym s.answers ∙ c.if-look.false) q.0 (Some place) fault in
    lowers jobs i g.rest u gives list q.1.1 c.lower.new.seat.me.0 c.lower.ensures.step.view h

pub returns-in_ok-push-in-Ok-clause-same : goal.returns-in_ok-push-in-Ok-clause-same
returns-in_ok-push-in-Ok-clause-same g c = same_after_look _ _ c.look.ensures.step.found c.look.ensures.same c.look.ensures.step.view

pub returns-in_err-push-in-Ok-clause-same : goal.returns-in_err-push-in-Ok-clause-same
returns-in_err-push-in-Ok-clause-same g c = same_after_look _ _ c.look.ensures.step.found c.look.ensures.same c.look.ensures.step.view

pub returns-in-Err-Memory-clause-same : goal.returns-in-Err-Memory-clause-same
returns-in-Err-Memory-clause-same g c = same_after_look _ _ c.look.ensures.step.found c.look.ensures.same c.look.ensures.step.view

pub returns-in-Err-At-clause-same : goal.returns-in-Err-At-clause-same
returns-in-Err-At-clause-same g c =
    let l = c.look.ensures in
    same_after_lower _ _ _ (same_after_look _ _ l.step.found l.same l.step.view) c.lower.ensures.same c.lower.ensures.step.view
