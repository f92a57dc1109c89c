-- What the jobs of a work answer, and what its workers give together.
use Rattle.std.specs.Prelude.{◌≡◌, ℕ, ◌+◌, ◌≤◌, List, [], ◌∷◌, ◌++◌, map, length, Some, None, Result, Ok, MatchResult, true, false, All}
use Rattle.std.specs.declared.vec.Vec.{Vec}
use mathlib.Core.Option.{some}
use lib.ListN.{get_elem?}
use Rattle.atomic_table.specs.Seated.{TableId}
use Rattle.atomic_table.specs.declared.shared.Seat.{Seat}
use Rattle.claim_board.specs.declared.job.Job.{Job}
use Rattle.claim_board.specs.declared.job.JobState.{JobState}
use Rattle.claim_board.specs.declared.job.JobState.TheVariants.{Untouched, Held, Faulty, Done, Skipped, Lowered}
use Rattle.claim_board.specs.declared.view.ClaimedJob.{ClaimedJob}
use Rattle.claim_board.specs.declared.view.View.{View}
use Rattle.claim_board.specs.declared.work.JobStop.{JobStop}
use Rattle.claim_board.specs.declared.work.JobStop.TheVariants.{Memory, At}
use Rattle.claim_board.specs.declared.run.Stop.{Stop}
use Rattle.claim_board.specs.declared.run.Stop.TheVariants.{Least, Memory as NoMemory}
use Rattle.claim_board.specs.Orders.{IsLeastFault}
use Rattle.claim_board.specs.Running.{IsKept, claimed_job, open_weight, open_count}
use Rattle.claim_board.specs.Steps.{IsSeatAt, IsSameSeat, IsOne, worker_of}

-- why a job gave no result: memory was refused, or the place is the job's fault
abbrev pub StopsBy : Job → JobStop → Type 0
StopsBy job Memory = Unit {0}
StopsBy job (At x) = job.fault ≡ Some x

-- a result only if the job has no fault, and a place only if it is the job's fault
abbrev pub AnswersJob : {X : Type 0} → (X → Type 0) → Job → Result X JobStop → Type 0
AnswersJob gives job r = MatchResult r (λ x. gives x × (job.fault ≡ None)) (StopsBy job)

-- why there are no results: memory was refused, or the place is the least fault of all jobs
abbrev pub IsStop : List Job → Stop → Type 0
IsStop jobs (Least x) = IsLeastFault jobs x
IsStop jobs NoMemory = Unit {0}

-- the list of jobs, with this one at its end if it is Done
abbrev pub with_done : ℕ → JobState → List ℕ → List ℕ
with_done i Untouched l = l
with_done i (Held w) l = l
with_done i (Faulty w) l = l
with_done i (Done w) l = l ++ i ∷ []
with_done i (Skipped w) l = l
with_done i (Lowered w) l = l

-- the claimed jobs that are Done, the oldest first
abbrev pub done_jobs : List ClaimedJob → List ℕ
done_jobs [] = []
done_jobs (c ∷ cs) = with_done c.job c.state (done_jobs cs)

-- the list has a result of each Done job, in the order in which the jobs were claimed, and nothing else
pub record AreResults {X : Type 0} (gives : ℕ → X → Type 0) (claimed : List ClaimedJob) (list : List (ℕ × X))
    : Type 0 where
  pub jobs : map (λ p. p.0) list ≡ done_jobs claimed
  pub given : All (λ p. gives p.0 p.1) list

-- no worker of the view has made a step
pub record IsFresh (v : View) : Type 0 where
  pub claimed : v.claimed ≡ []
  pub crew : All (λ m. m.stopped ≡ false) v.crew

-- the view has the same workers as the old one, over the same jobs
pub record IsSameCrew (old new : View) : Type 0 where
  pub jobs : new.jobs ≡ old.jobs
  pub workers : new.workers ≡ old.workers
  pub crew : map (λ m. m.worker) new.crew ≡ map (λ m. m.worker) old.crew

-- the seat is the one that it was, and has the workers that it had
abbrev pub IsForSame : Seat (Unit {0}) View → Seat (Unit {0}) View → Type 0
IsForSame old new = IsSameSeat old new × IsSameCrew old.me.0 new.me.0

-- all workers of the view have stopped
abbrev pub HaveStopped : View → Type 0
HaveStopped v = All (λ m. m.stopped ≡ true) v.crew

-- all workers of the view have stopped, and the list has the results of its Done jobs
abbrev pub AreAllResults : {X : Type 0} → (ℕ → X → Type 0) → View → List (ℕ × X) → Type 0
AreAllResults gives v list = HaveStopped v × AreResults gives v.claimed list

-- both lists are there, and this one is the first followed by the second
abbrev pub IsOneList : {X A E : Type 0} → Result (Vec X A) E → Result (Vec X A) E → Vec X A → Type 0
IsOneList (Ok front) (Ok back) all = all.items ≡ front.items ++ back.items
IsOneList _ _ all = ⊥

-- The seat is at this table and has this many workers, at least one, over these jobs; none of them has made a step.
pub record MayShare (table : TableId) (jobs : List Job) (workers : ℕ) (seat : Seat (Unit {0}) View) : Type 0 where
  pub place : IsSeatAt table seat
  pub over : seat.me.0.jobs ≡ jobs
  pub fresh : IsFresh seat.me.0
  pub crew : length seat.me.0.crew ≡ workers
  pub at_least_one : 1 ≤ workers

-- the view has one worker, over these jobs, which has not stopped and has no job that is Held or Faulty
pub record IsFree (jobs : List Job) (v : View) : Type 0 where
  pub over : v.jobs ≡ jobs
  pub one : IsOne v (worker_of v) false
  pub free : open_count (worker_of v) v.claimed ≡ 0

-- the view has one worker, over these jobs, which claimed the job i last; that job is in this state, and no earlier one
-- is Held or Faulty by the worker
pub record IsAt (jobs : List Job) (i : ℕ) (state : JobState) (rest : List ClaimedJob) (v : View) : Type 0 where
  pub over : v.jobs ≡ jobs
  pub one : IsOne v (worker_of v) false
  pub claimed : v.claimed ≡ claimed_job i state ∷ rest
  pub free : open_count (worker_of v) rest ≡ 0

-- the job i, which the view's one worker claimed last, has ended, and the list has the results up to it
pub record HasEnded {X : Type 0} (jobs : List Job) (gives : ℕ → X → Type 0) (i : ℕ) (rest : List ClaimedJob) (v : View)
    (list : List (ℕ × X)) : Type 0 where
  pub state : JobState
  pub last : IsAt jobs i state rest v
  pub closed : open_weight (worker_of v) state ≡ 0
  pub results : AreResults gives (claimed_job i state ∷ rest) list

-- one more than the job that was claimed last, or 0 if none was
abbrev pub next_above : List ClaimedJob → ℕ
next_above [] = 0
next_above (c ∷ cs) = c.job + 1

-- the jobs that were claimed before the last one
abbrev pub earlier_jobs : List ClaimedJob → List ClaimedJob
earlier_jobs [] = []
earlier_jobs (c ∷ cs) = cs

-- a table was closed with a seat of this view, and its fault word was `least`: the running rule held of its words and
-- views
abbrev pub IsLast : List Job → ℕ → View → ℕ → Type 0
IsLast jobs workers v least = (next : ℕ) × (views : List View) × (id : ℕ) × IsKept jobs workers next least views
    × (get_elem? views id ≡ some v)
