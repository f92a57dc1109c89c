use Rattle.std.proofs.Common.{rules, ap, sym, ◌∙◌, arith}
use Rattle.claim_board.specs.declared.job.Job.{Job}
use Rattle.board_tests.proofs.Spacing.{length-spaced, spaced_here}
use Rattle.board_tests.proofs.jobs.ExcerptsWork.run.Goals as goal

pub fault-requires : goal.fault-requires
fault-requires c =
    let w = c.args.self.now in let l = length-spaced w.low w.high 0 w.jobs in let r = c.requires in let f = w.few in omega arith

pub excerpt-requires : goal.excerpt-requires
excerpt-requires c =
    let w = c.args.self.now in let l = length-spaced w.low w.high 0 w.jobs in let r = c.requires in let f = w.few in omega arith

pub returns-in-Some : goal.returns-in-Some
returns-in-Some c =
    let w = c.args.self.now in
    ap (λ (job : Job). job.fault) (spaced_here w.low w.high w.jobs c.args.i c.requires) ∙ (sym c.fault.ensures ∙ c.in-Some.is)

pub returns-in-Ok : goal.returns-in-Ok
returns-in-Ok c =
    let w = c.args.self.now in
    (search rules, ap (λ (job : Job). job.fault) (spaced_here w.low w.high w.jobs c.args.i c.requires) ∙ (sym c.fault.ensures ∙ c.in-None.is))
