use Rattle.std.proofs.Common.{length}
use Rattle.refusal_ledgers.proofs.jobs.+are_jobs.Given as goal

abbrev pub decreases-are_jobs : goal.decreases-are_jobs
decreases-are_jobs l = length l.jobs.now
