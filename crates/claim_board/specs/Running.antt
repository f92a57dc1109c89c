-- The running rule: what holds, between any two steps, of the two words that workers share and of the views of all
-- seats. Word 0 is the claim word, the board's `next`. Word 1 is the fault word, the board's least place.
use Rattle.std.specs.Prelude.{◌≡◌, ℕ, zero, suc, ◌+◌, ◌*◌, ◌<◌, ◌≤◌, ◌⊎◌, ◌==◌, min, Bool, true, false, List, [], ◌∷◌, length, Option, Some, None, IfSome, All, slice_index_or}
use Rattle.atomic_table.specs.Table.{State}
use Rattle.claim_board.specs.declared.job.Job.{Job}
use Rattle.claim_board.specs.declared.job.JobState.{JobState}
use Rattle.claim_board.specs.declared.job.JobState.TheVariants.{Untouched, Held, Faulty, Done, Skipped, Lowered}
use Rattle.claim_board.specs.declared.view.ClaimedJob.{ClaimedJob}
use Rattle.claim_board.specs.declared.view.SeatWorker.{SeatWorker}
use Rattle.claim_board.specs.declared.view.View.{View}
use Rattle.claim_board.specs.Board.{AreJobs}

-- 2^64 - 1, the fault word if there is no least place
abbrev pub no_place : ℕ
no_place = 18446744073709551615

-- a claimed job, in this state
abbrev pub claimed_job : ℕ → JobState → ClaimedJob
claimed_job i state = record { job = i; state = state }

-- a worker of a seat, which has stopped or not
abbrev pub seat_worker : ℕ → Bool → SeatWorker
seat_worker w stopped = record { worker = w; stopped = stopped }

-- what is read in place of a job that is not there
abbrev pub blank_job : Job
blank_job = record { start = 0; fault = None }

-- the job i
abbrev pub job_at : List Job → ℕ → Job
job_at jobs i = slice_index_or jobs i blank_job

-- the sum of f over a list
abbrev pub total : {A : Type 0} → (A → ℕ) → List A → ℕ
total f [] = 0
total f (x ∷ xs) = f x + total f xs

-- 1 for true, 0 for false
abbrev pub bit : Bool → ℕ
bit true = 1
bit false = 0

-- the weight that is 1 at w, and 0 elsewhere
abbrev pub one_at : ℕ → ℕ → ℕ
one_at w u = bit (u == w)

-- 1 if the state is Held or Faulty by the worker w
abbrev pub open_weight : ℕ → JobState → ℕ
open_weight w Untouched = 0
open_weight w (Held u) = one_at w u
open_weight w (Faulty u) = one_at w u
open_weight w (Done u) = 0
open_weight w (Skipped u) = 0
open_weight w (Lowered u) = 0

-- 1 if the state names the worker w
abbrev pub name_weight : ℕ → JobState → ℕ
name_weight w Untouched = 0
name_weight w (Held u) = one_at w u
name_weight w (Faulty u) = one_at w u
name_weight w (Done u) = one_at w u
name_weight w (Skipped u) = one_at w u
name_weight w (Lowered u) = one_at w u

-- 1 if there is a place and it is x
abbrev pub place_weight : Option ℕ → ℕ → ℕ
place_weight None x = 0
place_weight (Some y) x = one_at x y

-- 1 if the job is Lowered and its fault is x
abbrev pub lowered_weight : List Job → ℕ → ℕ → JobState → ℕ
lowered_weight jobs x i Untouched = 0
lowered_weight jobs x i (Held u) = 0
lowered_weight jobs x i (Faulty u) = 0
lowered_weight jobs x i (Done u) = 0
lowered_weight jobs x i (Skipped u) = 0
lowered_weight jobs x i (Lowered u) = place_weight (job_at jobs i).fault x

-- the total weight of the claimed jobs, where the job i weighs h i
abbrev pub job_weight : (ℕ → ℕ) → List ClaimedJob → ℕ
job_weight h claimed = total (λ c. h c.job) claimed

-- how many claimed jobs the worker w must still look at or lower
abbrev pub open_count : ℕ → List ClaimedJob → ℕ
open_count w claimed = total (λ c. open_weight w c.state) claimed

-- how many claimed jobs name the worker w
abbrev pub name_count : ℕ → List ClaimedJob → ℕ
name_count w claimed = total (λ c. name_weight w c.state) claimed

-- how many claimed jobs are Lowered and have the fault x
abbrev pub lowered_count : List Job → ℕ → List ClaimedJob → ℕ
lowered_count jobs x claimed = total (λ c. lowered_weight jobs x c.job c.state) claimed

-- the total weight of a seat's workers, where the worker w weighs h w
abbrev pub crew_weight : (ℕ → ℕ) → List SeatWorker → ℕ
crew_weight h crew = total (λ m. h m.worker) crew

-- how many workers of a seat have stopped
abbrev pub stopped_count : List SeatWorker → ℕ
stopped_count crew = total (λ m. bit m.stopped) crew

-- how often the worker w is among the stopped workers of a seat
abbrev pub stopped_count_of : ℕ → List SeatWorker → ℕ
stopped_count_of w crew = total (λ m. one_at w m.worker * bit m.stopped) crew

-- the total weight of the numbers below n
abbrev pub weight_below : (ℕ → ℕ) → ℕ → ℕ
weight_below h zero = 0
weight_below h (suc n) = h n + weight_below h n

-- the view of a seat that was joined to another: it has no job and no worker
abbrev pub spent_view : View
spent_view = record { jobs = []; workers = 0; claimed = []; crew = [] }

-- What holds of the claimed job i by its state. No claimed job is Untouched. A Done job has no fault. A Faulty or
-- Lowered one has a fault. A Skipped one starts above the fault word. The fault of a Lowered one is at or above the
-- fault word.
abbrev pub IsGoodAt : List Job → ℕ → ℕ → JobState → Type 0
IsGoodAt jobs least i Untouched = ⊥
IsGoodAt jobs least i (Held w) = Unit {0}
IsGoodAt jobs least i (Faulty w) = (x : ℕ) × ((job_at jobs i).fault ≡ Some x)
IsGoodAt jobs least i (Done w) = (job_at jobs i).fault ≡ None
IsGoodAt jobs least i (Skipped w) = least < (job_at jobs i).start
IsGoodAt jobs least i (Lowered w) = (x : ℕ) × ((job_at jobs i).fault ≡ Some x) × (least ≤ x)

-- the claimed job is as its state says
abbrev pub IsGood : List Job → ℕ → ClaimedJob → Type 0
IsGood jobs least c = IsGoodAt jobs least c.job c.state

-- A view, unless it is spent, has a copy of the table's jobs and of its number of workers. Each claimed job is as its
-- state says. A worker has at most one job that is Held or Faulty, and none once it has stopped. A job whose state
-- names a worker is in the view of that worker.
pub record IsView (jobs : List Job) (workers least : ℕ) (v : View) : Type 0 where
  pub copy : (v ≡ spent_view) ⊎ ((v.jobs ≡ jobs) × (v.workers ≡ workers))
  pub claimed : All (IsGood jobs least) v.claimed
  pub one : (w : ℕ) → open_count w v.claimed + stopped_count_of w v.crew ≤ 1
  pub own : (w : ℕ) → crew_weight (one_at w) v.crew ≡ 0 → name_count w v.claimed ≡ 0

-- the jobs of a work: their starts and faults are as on a board, every place is below 2^64 - 1, and there are at most
-- 2^32 jobs
pub record AreWorkJobs (jobs : List Job) : Type 0 where
  pub in_order : AreJobs jobs
  pub places : All (λ job. (job.start < no_place) × IfSome job.fault (λ x. x < no_place)) jobs
  pub few : length jobs ≤ 4294967296

-- the jobs and the number of workers of a table: the jobs are those of a work, and there are 1 to 64 workers
pub record IsKey (jobs : List Job) (workers : ℕ) : Type 0 where
  pub listed : AreWorkJobs jobs
  pub at_least_one : 1 ≤ workers
  pub at_most_64 : workers ≤ 64

-- The running rule. Each view is as `IsView` says. The jobs in all views are the jobs below the claim word, each once:
-- whatever the numbers weigh, both weigh the same. (If each number weighs 1, there are as many of both. If x weighs 1
-- and every other number 0, x is in both equally often.)
-- In the same way the workers in all views are the workers of the table, each once.
-- The claim word is the number of jobs in all views plus the number of workers that have stopped.
-- The fault word is 2^64 - 1 or the fault of a job that is Lowered.
pub record IsKept (jobs : List Job) (workers next least : ℕ) (views : List View) : Type 0 where
  pub key : IsKey jobs workers
  pub each : All (IsView jobs workers least) views
  pub each_job_once : (h : ℕ → ℕ) → total (λ v. job_weight h v.claimed) views ≡ weight_below h (min next (length jobs))
  pub each_worker_once : (h : ℕ → ℕ) → total (λ v. crew_weight h v.crew) views ≡ weight_below h workers
  pub claim_word : next ≡ total (λ v. length v.claimed + stopped_count v.crew) views
  pub fault_word : (least ≡ no_place) ⊎ (0 < total (λ v. lowered_count jobs least v.claimed) views)

-- the table has two words, and the running rule holds of them and of all views
abbrev pub IsRuled : List Job → ℕ → State (Unit {0}) View → Type 0
IsRuled jobs workers s = (next : ℕ) × (least : ℕ) × (s.words ≡ next ∷ least ∷ [])
    × IsKept jobs workers next least s.views

-- the workers below n, none of which has stopped, from the greatest down
abbrev pub crew_of : ℕ → List SeatWorker
crew_of zero = []
crew_of (suc n) = seat_worker n false ∷ crew_of n

-- the view of the first seat: it has all workers, none of which has stopped, and no job
abbrev pub opening_view : List Job → ℕ → View
opening_view jobs workers = record { jobs = jobs; workers = workers; claimed = []; crew = crew_of workers }
