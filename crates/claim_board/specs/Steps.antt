-- What claim, look, lower, split and join do to a seat's view; and that claim, look and lower are steps of the board.
use Rattle.std.specs.Prelude.{◌≡◌, ℕ, ◌+◌, ◌/◌, ◌<◌, ◌≤◌, ◌==◌, ltb, min, Bool, true, false, cond, List, [], ◌∷◌, ◌++◌, map, length, take, drop, Option, Some, None, MatchOption, All}
use Rattle.std.specs.List.{range_with_len}
use Rattle.atomic_table.specs.Table.{Me, Step as TableStep}
use Rattle.atomic_table.specs.Seated.{TableId}
use Rattle.atomic_table.specs.declared.shared.Seat.{Seat}
use Rattle.claim_board.specs.declared.job.Job.{Job}
use Rattle.claim_board.specs.declared.job.JobState.{JobState}
use Rattle.claim_board.specs.declared.job.JobState.TheVariants.{Untouched, Held, Faulty, Skipped, Lowered}
use Rattle.claim_board.specs.declared.job.Act.{Act}
use Rattle.claim_board.specs.declared.job.Act.TheVariants.{Claim, Look, Lower}
use Rattle.claim_board.specs.declared.job.Step.{Step}
use Rattle.claim_board.specs.declared.view.ClaimedJob.{ClaimedJob}
use Rattle.claim_board.specs.declared.view.SeatWorker.{SeatWorker}
use Rattle.claim_board.specs.declared.view.View.{View}
use Rattle.claim_board.specs.Board.{BoardState, IsStep, state_by_fault}
use Rattle.claim_board.specs.Running.{no_place, claimed_job, seat_worker, job_at, open_count}

-- the first of these workers
abbrev pub first_of : List SeatWorker → ℕ
first_of [] = 0
first_of (m ∷ ms) = m.worker

-- the worker of a view that has one worker
abbrev pub worker_of : View → ℕ
worker_of v = first_of v.crew

-- the view has this worker alone, which has stopped or not
abbrev pub IsOne : View → ℕ → Bool → Type 0
IsOne v w stopped = v.crew ≡ seat_worker w stopped ∷ []

-- the view after a claim that found this number in the claim word: the worker holds the job of that number, or has
-- stopped if there is no such job
abbrev pub view_after_claim : View → ℕ → View
view_after_claim v found = cond (ltb found (length v.jobs))
    (record v { claimed = claimed_job found (Held (worker_of v)) ∷ v.claimed })
    (record v { crew = seat_worker (worker_of v) true ∷ [] })

-- the state of a job after a look that found this place in the fault word
abbrev pub state_after_load : Job → ℕ → ℕ → JobState
state_after_load job found w = cond (ltb found job.start) (Skipped w) (state_by_fault job.fault w)

-- the job that was claimed last goes to another state, and the others stay
abbrev pub with_latest_state : (ℕ → JobState) → List ClaimedJob → List ClaimedJob
with_latest_state f [] = []
with_latest_state f (c ∷ cs) = claimed_job c.job (f c.job) ∷ cs

-- the view after a look that found this place in the fault word
abbrev pub view_after_look : View → ℕ → View
view_after_look v found =
    record v { claimed = with_latest_state (λ i. state_after_load (job_at v.jobs i) found (worker_of v)) v.claimed }

-- the view after a lower
abbrev pub view_after_lower : View → View
view_after_lower v = record v { claimed = with_latest_state (λ i. Lowered (worker_of v)) v.claimed }

-- the view of a seat after a split, before which its workers had claimed no job: the first half of the workers
abbrev pub left_view : View → View
left_view v = record v { crew = take (length v.crew / 2) v.crew }

-- the view of the seat that a split makes: the other half of the workers
abbrev pub right_view : View → View
right_view v = record v { crew = drop (length v.crew / 2) v.crew }

-- the view of two joined seats: the jobs and the workers of both
abbrev pub joined_view : View → View → View
joined_view v w = record v { claimed = w.claimed ++ v.claimed; crew = v.crew ++ w.crew }

-- what a seat knows: its view, and its slots, of which there are none
abbrev pub Known : Type 0
Known = Me (Unit {0}) View

-- what the table says of a claim: the view after it, that the number found is above all jobs of the view, and that the
-- worker is one of the table's
abbrev pub TellsClaim : TableStep (Unit {0}) → Known → ℕ → Known → Type 0
TellsClaim st me found after = (after.0 ≡ view_after_claim me.0 found) × (after.1 ≡ me.1)
    × All (λ c. c.job < found) me.0.claimed × (worker_of me.0 < me.0.workers)

-- what the table says of a look: the view after it, that the jobs of the view are jobs of the table, and that the
-- worker is one of the table's
abbrev pub TellsLook : TableStep (Unit {0}) → Known → ℕ → Known → Type 0
TellsLook st me found after = (after.0 ≡ view_after_look me.0 found) × (after.1 ≡ me.1)
    × All (λ c. c.job < length me.0.jobs) me.0.claimed × (worker_of me.0 < me.0.workers)

-- what the table says of a lower: the same as of a look, and that the place lowered to is below 2^64 - 1
abbrev pub TellsLower : TableStep (Unit {0}) → Known → ℕ → Known → Type 0
TellsLower st me found after = (after.0 ≡ view_after_lower me.0) × (after.1 ≡ me.1)
    × All (λ c. c.job < length me.0.jobs) me.0.claimed × (worker_of me.0 < me.0.workers) × (st.first < no_place)

-- the state of the job i by these claimed jobs, Untouched if it is not one of them
abbrev pub state_in : List ClaimedJob → ℕ → JobState
state_in [] i = Untouched
state_in (c ∷ cs) i = cond (c.job == i) c.state (state_in cs i)

-- whether the worker w is one of these and has stopped
abbrev pub has_stopped_in : List SeatWorker → ℕ → Bool
has_stopped_in [] w = false
has_stopped_in (m ∷ ms) w = cond (m.worker == w) m.stopped (has_stopped_in ms w)

-- the least place that the fault word means, if any
abbrev pub least_of : ℕ → Option ℕ
least_of found = cond (found == no_place) None (Some found)

-- the board as a view shows it: the jobs of other views are Untouched, and their workers have not stopped
abbrev pub board_of : View → ℕ → Option ℕ → BoardState
board_of v next least = record {
  jobs = v.jobs;
  next = next;
  least = least;
  states = map (state_in v.claimed) (range_with_len 0 (length v.jobs));
  stopped = map (has_stopped_in v.crew) (range_with_len 0 v.workers);
}

-- this act of the worker w, as a step of the board
abbrev pub step_by : ℕ → Act → Step
step_by w act = record { worker = w; act = act }

-- the table has two words and no slot
abbrev pub IsBoard : TableId → Type 0
IsBoard t = (t.words ≡ 2) × (t.slots ≡ 0)

-- the table is such a one, and the seat is at it
abbrev pub IsSeatAt : TableId → Seat (Unit {0}) View → Type 0
IsSeatAt t seat = IsBoard t × (seat.table_id ≡ t)

-- the seat is the same one, at the same table
abbrev pub IsSameSeat : Seat (Unit {0}) View → Seat (Unit {0}) View → Type 0
IsSameSeat old new = (new.table_id ≡ old.table_id) × (new.id ≡ old.id) × (new.me.1 ≡ old.me.1)

-- the view has one worker, which has not stopped and has no job that is Held or Faulty
abbrev pub MayClaimNext : View → Type 0
MayClaimNext v = (w : ℕ) × IsOne v w false × (open_count w v.claimed ≡ 0)

-- the view has one worker; the job that it claimed last is Held by it and starts at this place
abbrev pub HoldsJob : View → ℕ → Type 0
HoldsJob v start = (w : ℕ) × (i : ℕ) × (rest : List ClaimedJob) × IsOne v w false
    × (v.claimed ≡ claimed_job i (Held w) ∷ rest) × (start ≡ (job_at v.jobs i).start)

-- the view has one worker; the job that it claimed last is Faulty by it, and this is the job's fault
abbrev pub HasFaultyJob : View → ℕ → Type 0
HasFaultyJob v place = (w : ℕ) × (i : ℕ) × (rest : List ClaimedJob) × IsOne v w false
    × (v.claimed ≡ claimed_job i (Faulty w) ∷ rest) × ((job_at v.jobs i).fault ≡ Some place)

-- a claim that found this number in the claim word is a Claim by the view's worker on the board, whatever the least
-- place was
abbrev pub IsClaim : View → ℕ → View → Type 0
IsClaim old found new = (least : Option ℕ)
    → IsStep (board_of old found least) (step_by (worker_of old) Claim) (board_of new (found + 1) least)

-- a look that found this place in the fault word is a Look by the view's worker on the board, whatever the next job was
abbrev pub IsLook : View → ℕ → View → Type 0
IsLook old found new = (next : ℕ)
    → IsStep (board_of old next (least_of found)) (step_by (worker_of old) Look) (board_of new next (least_of found))

-- a lower to this place is a Lower by the view's worker on the board, whatever the next job and the least place were
abbrev pub IsLower : View → ℕ → View → Type 0
IsLower old place new = (next found : ℕ) → IsStep (board_of old next (least_of found))
    (step_by (worker_of old) Lower) (board_of new next (least_of (min found place)))

-- a claim: the number that it found is above all jobs of the view, and is the answer if it is a job; the claim is the
-- board's
pub record ClaimsNext (old new : View) (answer : Option ℕ) : Type 0 where
  pub found : ℕ
  pub view : new ≡ view_after_claim old found
  pub above : All (λ c. c.job < found) old.claimed
  pub answers : MatchOption answer (length old.jobs ≤ found) (λ i. (i ≡ found) × (found < length old.jobs))
  pub board : IsClaim old found new

-- a look: the answer says whether the place that it found is below the job's start; the look is the board's
pub record LooksAtLeast (old new : View) (start : ℕ) (answer : Bool) : Type 0 where
  pub found : ℕ
  pub view : new ≡ view_after_look old found
  pub answers : answer ≡ ltb found start
  pub board : IsLook old found new

-- a lower to this place; the lower is the board's
pub record LowersLeast (old new : View) (place : ℕ) : Type 0 where
  pub view : new ≡ view_after_lower old
  pub board : IsLower old place new
