-- The jobs of the tests of `claim_board`.
use Rattle.std.specs.Prelude.{◌≡◌, ℕ, zero, suc, ◌+◌, ◌*◌, leb, ltb, cond, List, [], ◌∷◌, Option, Some, None, IfSome, slice_get}
use Rattle.claim_board.specs.declared.job.Job.{Job}

-- where job i starts: at 16 * (i + 1)
abbrev pub spaced_start : ℕ → ℕ
spaced_start i = 16 * (i + 1)

-- the first of these jobs is job k: each job starts at its place, and its fault, if it has one, is 5 above that
abbrev pub AreSpacedFrom : ℕ → List Job → Type 0
AreSpacedFrom k jobs = (i : ℕ) (job : Job) → slice_get jobs i ≡ Some job
    → (job.start ≡ spaced_start (k + i)) × IfSome job.fault (λ x. x ≡ spaced_start (k + i) + 5)

-- the fault of job i: 5 above its start if i is at least `low` and below `high`, and otherwise none
abbrev pub spaced_fault : ℕ → ℕ → ℕ → Option ℕ
spaced_fault low high i = cond (leb low i) (cond (ltb i high) (Some (spaced_start i + 5)) None) None

-- job i, with that fault
abbrev pub spaced_job : ℕ → ℕ → ℕ → Job
spaced_job low high i = record { start = spaced_start i; fault = spaced_fault low high i }

-- n jobs, from job k on
abbrev pub spaced_from : ℕ → ℕ → ℕ → ℕ → List Job
spaced_from low high k zero = []
spaced_from low high k (suc n) = spaced_job low high k ∷ spaced_from low high (suc k) n

-- n jobs, from job 0 on
abbrev pub spaced_jobs : ℕ → ℕ → ℕ → List Job
spaced_jobs low high n = spaced_from low high 0 n
