-- What every list of steps of the board leads to, whatever the order of the workers' steps.
use Rattle.std.specs.Prelude.{◌≡◌, ℕ, ◌+◌, ◌*◌, ◌<◌, ◌≤◌, true, List, [], ◌∷◌, length, Some, None, All, slice_get}
use Rattle.claim_board.specs.declared.job.Job.{Job}
use Rattle.claim_board.specs.declared.job.JobState.{JobState}
use Rattle.claim_board.specs.declared.job.JobState.TheVariants.{Untouched, Held, Faulty, Done, Skipped, Lowered}
use Rattle.claim_board.specs.declared.job.Step.{Step}
use Rattle.claim_board.specs.Board.{BoardState, AreJobs, IsStep, opening_of}

-- a list of steps leads from s to t
abbrev pub LeadsTo : BoardState → List Step → BoardState → Type 0
LeadsTo s [] t = t ≡ s
LeadsTo s (x ∷ xs) t = (u : BoardState) × IsStep s x u × LeadsTo u xs t

-- the job is Done, Skipped or Lowered by the worker w
abbrev pub IsEndedBy : ℕ → JobState → Type 0
IsEndedBy w Untouched = ⊥
IsEndedBy w (Held u) = ⊥
IsEndedBy w (Faulty u) = ⊥
IsEndedBy w (Done u) = u ≡ w
IsEndedBy w (Skipped u) = u ≡ w
IsEndedBy w (Lowered u) = u ≡ w

-- the job i is Done, Skipped or Lowered by exactly one worker
pub record EndsOnce (workers : ℕ) (t : BoardState) (i : ℕ) : Type 0 where
  pub state : JobState
  pub is_at : slice_get t.states i ≡ Some state
  pub worker : ℕ
  pub is_worker : worker < workers
  pub by_worker : IsEndedBy worker state
  pub by_no_other : (u : ℕ) → IsEndedBy u state → u ≡ worker

-- all workers have stopped
abbrev pub HaveAllStopped : BoardState → Type 0
HaveAllStopped t = All (λ stopped. stopped ≡ true) t.stopped

-- no job has a fault
abbrev pub AreFaultless : List Job → Type 0
AreFaultless jobs = All (λ job. job.fault ≡ None) jobs

-- x is the least fault of all jobs
pub record IsLeastFault (jobs : List Job) (x : ℕ) : Type 0 where
  pub found : (i : ℕ) × (job : Job) × (slice_get jobs i ≡ Some job) × (job.fault ≡ Some x)
  pub least : (i : ℕ) (job : Job) (y : ℕ) → slice_get jobs i ≡ Some job → job.fault ≡ Some y → x ≤ y

-- all jobs are Done, and there is no least place
pub record AreDone (jobs : List Job) (t : BoardState) : Type 0 where
  pub done : (i : ℕ) → i < length jobs → (w : ℕ) × (slice_get t.states i ≡ Some (Done w))
  pub least : t.least ≡ None

-- The state t, after this many steps. There were at most three steps for each job and one for each worker, and `next`
-- is at most jobs and workers together. Once all workers have stopped, each job was ended by exactly one of them. If no
-- job has a fault, all jobs are then Done and there is no least place; otherwise the least place is the least fault of
-- all jobs.
pub record IsOrderly (jobs : List Job) (workers steps : ℕ) (t : BoardState) : Type 0 where
  pub few : steps ≤ 3 * length jobs + workers
  pub next_within : t.next ≤ length jobs + workers
  pub once : HaveAllStopped t → (i : ℕ) → i < length jobs → EndsOnce workers t i
  pub faultless : HaveAllStopped t → AreFaultless jobs → AreDone jobs t
  pub faulty : HaveAllStopped t → (AreFaultless jobs → ⊥) → (x : ℕ) × (t.least ≡ Some x) × IsLeastFault jobs x

-- for all jobs and every number of workers from 1 on, every list of steps from the opening leads to such a state
abbrev pub AllOrders : Type 0
AllOrders = (jobs : List Job) (workers : ℕ) (steps : List Step) (t : BoardState)
    → AreJobs jobs → 1 ≤ workers → LeadsTo (opening_of jobs workers) steps t → IsOrderly jobs workers (length steps) t
