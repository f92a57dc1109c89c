-- The board: jobs that workers claim, look at and lower, as states and steps.
use Rattle.std.specs.Prelude.{◌≡◌, ◌≢◌, ℕ, ◌+◌, ◌<◌, ◌≤◌, ltb, Bool, true, false, cond, List, [], ◌∷◌, length, replicate, Option, Some, None, IfSome, slice_get, slice_set, min}
use Rattle.claim_board.specs.declared.job.Job.{Job}
use Rattle.claim_board.specs.declared.job.JobState.{JobState}
use Rattle.claim_board.specs.declared.job.JobState.TheVariants.{Untouched, Held, Faulty, Done, Skipped, Lowered}
use Rattle.claim_board.specs.declared.job.Act.{Act}
use Rattle.claim_board.specs.declared.job.Act.TheVariants.{Claim, Look, Lower}
use Rattle.claim_board.specs.declared.job.Step.{Step}
use Rattle.claim_board.specs.declared.job.BoardFault.{BoardFault}
use Rattle.claim_board.specs.declared.job.BoardFault.TheVariants.{Worker, Order}

-- the next job, if there is one, starts above the start of this job and above its fault, if it has one
abbrev pub EndsBefore : Job → List Job → Type 0
EndsBefore job [] = Unit {0}
EndsBefore job (after ∷ rest) = (job.start < after.start) × IfSome job.fault (λ x. x < after.start)

-- starts rise strictly; a fault is at or above the start of its job, and below the start of the next one
abbrev pub AreJobs : List Job → Type 0
AreJobs [] = Unit {0}
AreJobs (job ∷ rest) = IfSome job.fault (λ x. job.start ≤ x) × EndsBefore job rest × AreJobs rest

-- the jobs; the number of the next one to be claimed; the least fault that was lowered to, if any; the state of each
-- job; and whether each worker has stopped
pub record BoardState : Type 0 where
  pub jobs : List Job
  pub next : ℕ
  pub least : Option ℕ
  pub states : List JobState
  pub stopped : List Bool

-- the opening: nothing is claimed, and no worker has stopped
abbrev pub opening_of : List Job → ℕ → BoardState
opening_of jobs workers = record {
  jobs = jobs;
  next = 0;
  least = None;
  states = replicate (length jobs) Untouched;
  stopped = replicate workers false;
}

-- the worker has not stopped, and no job is Held or Faulty by it
pub record MayClaim (s : BoardState) (w : ℕ) : Type 0 where
  pub works : slice_get s.stopped w ≡ Some false
  pub free : (i : ℕ) → (slice_get s.states i ≢ Some (Held w)) × (slice_get s.states i ≢ Some (Faulty w))

-- the board after a claim: `next` is one more, and the worker holds the job of the old number, or has stopped if there
-- is no such job
abbrev pub after_claim : BoardState → ℕ → BoardState
after_claim s w = cond (ltb s.next (length s.jobs))
    (record s { next = s.next + 1; states = slice_set s.states s.next (Held w) })
    (record s { next = s.next + 1; stopped = slice_set s.stopped w true })

-- whether there is a least place and it is below this place
abbrev pub is_least_below : Option ℕ → ℕ → Bool
is_least_below None start = false
is_least_below (Some least) start = ltb least start

-- Done if the job has no fault, otherwise Faulty
abbrev pub state_by_fault : Option ℕ → ℕ → JobState
state_by_fault None w = Done w
state_by_fault (Some x) w = Faulty w

-- the state of a job after a look: Skipped if the least place is below its start, otherwise Done or Faulty
abbrev pub state_after_look : Job → Option ℕ → ℕ → JobState
state_after_look job least w = cond (is_least_below least job.start) (Skipped w) (state_by_fault job.fault w)

-- the worker looks at a job that is Held by it
abbrev pub MakesLook : BoardState → ℕ → BoardState → Type 0
MakesLook s w t = (i : ℕ) × (job : Job) × (slice_get s.jobs i ≡ Some job) × (slice_get s.states i ≡ Some (Held w))
    × (t ≡ record s { states = slice_set s.states i (state_after_look job s.least w) })

-- the smaller of the least place, if any, and x
abbrev pub lesser_of : Option ℕ → ℕ → ℕ
lesser_of None x = x
lesser_of (Some least) x = min least x

-- the worker lowers the least place to the fault of a job that is Faulty by it, and the job is Lowered
abbrev pub MakesLower : BoardState → ℕ → BoardState → Type 0
MakesLower s w t = (i : ℕ) × (job : Job) × (x : ℕ) × (slice_get s.jobs i ≡ Some job) × (job.fault ≡ Some x)
    × (slice_get s.states i ≡ Some (Faulty w))
    × (t ≡ record s { least = Some (lesser_of s.least x); states = slice_set s.states i (Lowered w) })

-- the worker may do this act in the state s, and it leads to t
abbrev pub Acts : Act → BoardState → ℕ → BoardState → Type 0
Acts Claim s w t = MayClaim s w × (t ≡ after_claim s w)
Acts Look s w t = MakesLook s w t
Acts Lower s w t = MakesLower s w t

-- a step of one of the board's workers leads from s to t
abbrev pub IsStep : BoardState → Step → BoardState → Type 0
IsStep s x t = (x.worker < length s.stopped) × Acts x.act s x.worker t

-- the worker may not do this act in the state s
abbrev pub MayNot : Act → BoardState → ℕ → Type 0
MayNot act s w = (t : BoardState) → Acts act s w t → ⊥

-- why a step is refused: there is no such worker, or the worker may not do this act now
abbrev pub IsRefused : BoardState → Step → BoardFault → Type 0
IsRefused s x Worker = length s.stopped ≤ x.worker
IsRefused s x Order = (x.worker < length s.stopped) × ((t : BoardState) → IsStep s x t → ⊥)

-- there are as many jobs and workers as before
pub record IsSameSize (old new : BoardState) : Type 0 where
  pub jobs : length new.states ≡ length old.states
  pub workers : length new.stopped ≡ length old.stopped

-- each Faulty job has a fault
abbrev pub HaveFaults : List Job → List JobState → Type 0
HaveFaults jobs states = (i w : ℕ) → slice_get states i ≡ Some (Faulty w)
    → (job : Job) × (x : ℕ) × (slice_get jobs i ≡ Some job) × (job.fault ≡ Some x)
