use Rattle.std.proofs.Common.{length, ap}
use Rattle.claim_board.specs.declared.job.Job.{Job}
use Rattle.process_ledgers.specs.Processes.{processes_of}
use Rattle.audit_join.proofs.LookJobs.{job_is, within_count}
use Rattle.audit_join.proofs.look_work.LookWorkWork.run.Goals as goal

pub handles-requires : goal.handles-requires
handles-requires c = within_count (length (processes_of c.args.self.now.look.now)) c.args.i c.requires

pub returns-in-Ok : goal.returns-in-Ok
returns-in-Ok c =
    let count = length (processes_of c.args.self.now.look.now) in
    (c.in-Ok.ensures, ap (λ (job : Job). job.fault) (job_is count c.args.i (within_count count c.args.i c.requires)))
