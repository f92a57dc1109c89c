-- What one worker's steps leave.
use Rattle.std.proofs.Common.{◌≡◌, ℕ, ltb, true, false, cond, List, [], ◌∷◌, ◌++◌, map, sym, refl, ap, ◌∙◌, subst, Option, Some, Result, Err}
use mathlib.Core.List.{map-append}
use Rattle.std.proofs.lemmas.List.Elements.{All-push}
use Rattle.claim_board.specs.declared.job.Job.{Job}
use Rattle.claim_board.specs.declared.job.JobState.{JobState}
use Rattle.claim_board.specs.declared.job.JobState.TheVariants.{Held, Faulty, Done, Skipped, Lowered}
use Rattle.claim_board.specs.declared.work.JobStop.{JobStop}
use Rattle.claim_board.specs.declared.work.JobStop.TheVariants.{At}
use Rattle.claim_board.specs.declared.view.ClaimedJob.{ClaimedJob}
use Rattle.claim_board.specs.declared.view.View.{View}
use Rattle.claim_board.specs.Board.{state_by_fault}
use Rattle.claim_board.specs.Running.{claimed_job, job_at}
use Rattle.atomic_table.specs.declared.shared.Seat.{Seat}
use Rattle.claim_board.specs.Steps.{state_after_load, with_latest_state, view_after_look, view_after_lower, worker_of, IsSameSeat}
use Rattle.claim_board.specs.Work.{AnswersJob, IsAt, HasEnded, AreResults, IsForSame}

module _ (jobs : List Job) (i : ℕ) (rest : List ClaimedJob) (v : View) where
  look_at_last : (u : View) (found : ℕ) → u ≡ view_after_look v found → IsAt jobs i (Held (worker_of v)) rest v
      → IsAt jobs i (state_after_load (job_at jobs i) found (worker_of u)) rest u
  look_at_last u found e h = subst (λ u. IsAt jobs i (state_after_load (job_at jobs i) found (worker_of u)) rest u) (sym e) (record {
    over = h.over;
    one = h.one;
    claimed = ap (λ cs. with_latest_state (λ i. state_after_load (job_at v.jobs i) found (worker_of v)) cs) h.claimed
        ∙ ap (λ js. claimed_job i (state_after_load (job_at js i) found (worker_of v)) ∷ rest) h.over;
    free = h.free;
  })

  at_state : (u : View) (s t : JobState) → s ≡ t → IsAt jobs i s rest u → IsAt jobs i t rest u
  at_state u s t e h = subst (λ s. IsAt jobs i s rest u) e h

  module _ {X : Type 0} (gives : ℕ → X → Type 0) (list : List (ℕ × X)) (r : AreResults gives rest list) where
    pub skips : (u : View) (found start : ℕ) → u ≡ view_after_look v found → start ≡ (job_at jobs i).start → ltb found start ≡ true
        → IsAt jobs i (Held (worker_of v)) rest v → HasEnded jobs gives i rest u list
    skips u found start e at is h =
        let job : Job = job_at jobs i in
        let w : ℕ = worker_of u in
        let lower : ltb found job.start ≡ true = ap (λ n. ltb found n) (sym at) ∙ is in
        let same : state_after_load job found w ≡ Skipped w = ap (λ b. cond b (Skipped w) (state_by_fault job.fault w)) lower in
        record {
          state = Skipped w;
          last = at_state u (state_after_load job found w) (Skipped w) same (look_at_last u found e h);
          closed = refl;
          results = record { jobs = r.jobs; given = r.given };
        }

    pub finds : (u : View) (found start : ℕ) → u ≡ view_after_look v found → start ≡ (job_at jobs i).start → ltb found start ≡ false
        → IsAt jobs i (Held (worker_of v)) rest v
        → (f : Option ℕ) → (job_at jobs i).fault ≡ f → IsAt jobs i (state_by_fault f (worker_of u)) rest u
    finds u found start e at is h f fault =
        let job : Job = job_at jobs i in
        let w : ℕ = worker_of u in
        let not_lower : ltb found job.start ≡ false = ap (λ n. ltb found n) (sym at) ∙ is in
        let same : state_after_load job found w ≡ state_by_fault f w = ap (λ b. cond b (Skipped w) (state_by_fault job.fault w)) not_lower
        ∙ ap (λ f. state_by_fault f w) fault in
        at_state u (state_after_load job found w) (state_by_fault f w) same (look_at_last u found e h)

    pub gains : (u : View) (out : X) (new : List (ℕ × X)) → IsAt jobs i (Done (worker_of u)) rest u → gives i out → new ≡ list ++ (i, out) ∷ []
        → HasEnded jobs gives i rest u new
    gains u out new h given e = subst (λ l. HasEnded jobs gives i rest u l) (sym e) (record {
      state = Done (worker_of u);
      last = h;
      closed = refl;
      results = record {
        jobs = map-append (λ (p : ℕ × X). p.0) list ((i, out) ∷ []) ∙ ap (λ l. l ++ i ∷ []) r.jobs;
        given = All-push (λ p. gives p.0 p.1) list (i, out) r.given given;
      };
    })

    pub lowers : (u : View) → u ≡ view_after_lower v → IsAt jobs i (Faulty (worker_of v)) rest v → HasEnded jobs gives i rest u list
    lowers u e h = subst (λ u. HasEnded jobs gives i rest u list) (sym e) (record {
      state = Lowered (worker_of v);
      last = record {
        over = h.over;
        one = h.one;
        claimed = ap (λ cs. with_latest_state (λ i. Lowered (worker_of v)) cs) h.claimed;
        free = h.free;
      };
      closed = refl;
      results = record { jobs = r.jobs; given = r.given };
    })

pub fault_of : {X : Type 0} (gives : X → Type 0) (job : Job) (r : Result X JobStop) (x : ℕ) → r ≡ Err (At x) → AnswersJob gives job r → job.fault ≡ Some x
fault_of gives job r x e a = subst (λ r. AnswersJob gives job r) e a

-- neither a look nor a lower changes the workers of a seat
pub same_after_look : (old new : Seat (Unit {0}) View) (found : ℕ) → IsSameSeat old new → new.me.0 ≡ view_after_look old.me.0 found → IsForSame old new
same_after_look old new found s e = (
  s,
  record {
    jobs = ap (λ v. v.jobs) e;
    workers = ap (λ v. v.workers) e;
    crew = ap (λ v. map (λ m. m.worker) v.crew) e;
  },
)

pub same_after_lower : (old mid new : Seat (Unit {0}) View) → IsForSame old mid → IsSameSeat mid new → new.me.0 ≡ view_after_lower mid.me.0
    → IsForSame old new
same_after_lower old mid new first s e = (
  (s.0 ∙ first.0.0, s.1 ∙ first.0.1, s.2 ∙ first.0.2),
  record {
    jobs = ap (λ v. v.jobs) e ∙ first.1.jobs;
    workers = ap (λ v. v.workers) e ∙ first.1.workers;
    crew = ap (λ v. map (λ m. m.worker) v.crew) e ∙ first.1.crew;
  },
)
