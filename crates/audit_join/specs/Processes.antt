-- A job for each process.
use Rattle.std.specs.Prelude.{ℕ, List, map, None}
use Rattle.std.specs.List.{range_with_len}
use Rattle.claim_board.specs.declared.job.Job.{Job}

-- the job of the process with this number: its start is that number, and it has no fault
abbrev pub process_job : ℕ → Job
process_job number = record { start = number; fault = None }

-- the jobs of n processes, in order
abbrev pub process_jobs : ℕ → List Job
process_jobs n = map process_job (range_with_len 0 n)
