use Rattle.std.proofs.Common.{arith, rules, subst, sym}
use Rattle.claim_board.specs.Running.{AreWorkJobs}
use Rattle.claim_board.specs.Work.{MayShare}
use Rattle.claim_board.proofs.Finish.{last_of, opened_at, least_at_end, faultless_at_end, whole_at_end}
use Rattle.claim_board.proofs.run.run_jobs.Goals as goal

pub open_table-requires-clause-jobs : goal.open_table-requires-clause-jobs
open_table-requires-clause-jobs g c = subst AreWorkJobs (sym c.requires.named) c.requires.jobs

pub share-shared-requires : goal.share-shared-requires
share-shared-requires g c =
    let table = c.in-Ok.table.shared.table_id in
    let n = c.get-count.result in
    let may : MayShare table (g.W.Work.listed c.args.work.now) n c.in-Ok.seat
    = subst (λ jobs. MayShare table jobs n c.in-Ok.seat) c.requires.named c.in-Ok.ensures.share in
    search rules

pub returns-then-least-lt18446744073709551615-clause-stop : goal.returns-then-least-lt18446744073709551615-clause-stop
returns-then-least-lt18446744073709551615-clause-stop g c =
    let opened = c.in-Ok.ensures in
    let last = last_of _ _ _ _ _ _ c.requires.named opened.workers c.close_table-least.ensures in
    least_at_end _ _ _ _ _ last (opened_at _ _ _ _ c.requires.named opened.view) c.share-shared.ensures.same.1
    c.in-Ok-shared.ensures.done.0 (omega (arith, c.if-least-lt18446744073709551615.true))

pub in_job_order-requires : goal.in_job_order-requires
in_job_order-requires g c =
    let opened = c.in-Ok.ensures in
    let last = last_of _ _ _ _ _ _ c.requires.named opened.workers c.close_table-least.ensures in
    let done = c.in-Ok-shared.ensures.done in
    whole_at_end _ _ _ _ _ last (opened_at _ _ _ _ c.requires.named opened.view) c.share-shared.ensures.same.1 done.0
    (omega (arith, c.if-least-lt18446744073709551615.false, c.close_table-least.type_inv)) _ _ done.1

pub returns-clause-faultless : goal.returns-clause-faultless
returns-clause-faultless g c =
    let opened = c.in-Ok.ensures in
    let last = last_of _ _ _ _ _ _ c.requires.named opened.workers c.close_table-least.ensures in
    faultless_at_end _ _ _ _ _ last (opened_at _ _ _ _ c.requires.named opened.view) c.share-shared.ensures.same.1
    c.in-Ok-shared.ensures.done.0 (omega (arith, c.if-least-lt18446744073709551615.false, c.close_table-least.type_inv))
