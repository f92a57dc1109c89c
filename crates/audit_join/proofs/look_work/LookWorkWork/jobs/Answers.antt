use Rattle.std.proofs.Common.{length, sym, ◌∙◌}
use Rattle.process_ledgers.specs.Processes.{processes_of}
use Rattle.audit_join.proofs.LookJobs.{jobs_long}
use Rattle.audit_join.proofs.look_work.LookWorkWork.jobs.Goals as goal

pub returns : goal.returns
returns c = c.process_count.ensures ∙ sym (jobs_long (length (processes_of c.args.self.now.look.now)))
