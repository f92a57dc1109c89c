-- A table that was closed with the seat of all its workers, once each of them has stopped.
use Rattle.std.proofs.Common.{◌≡◌, ℕ, ◌<◌, List, length, ap, subst, ◌∙◌, arith}
use Rattle.claim_board.specs.declared.job.Job.{Job}
use Rattle.claim_board.specs.declared.view.View.{View}
use Rattle.claim_board.specs.Orders.{AreFaultless, IsLeastFault}
use Rattle.claim_board.specs.Running.{no_place, crew_weight, weight_below, opening_view}
use Rattle.claim_board.specs.Work.{IsLast, IsSameCrew, HaveStopped, AreResults}
use Rattle.claim_board.specs.Results.{IsWhole}
use Rattle.claim_board.proofs.Opening.{crew_weight-opening_view}
use Rattle.claim_board.proofs.Ends as ends

module _ (jobs : List Job) (workers least : ℕ) (u v : View) (last : IsLast jobs workers v least) (open_is : u ≡ opening_view jobs workers)
    (same : IsSameCrew u v) (stopped : HaveStopped v) where
  all : (h : ℕ → ℕ) → crew_weight h v.crew ≡ weight_below h workers
  all h = crew_weight-opening_view h v.crew workers (subst (λ x. IsSameCrew x v) open_is same).crew

  pub least_at_end : least < no_place → IsLeastFault jobs least
  least_at_end low = ends.least_fault jobs workers last.0 least last.1 last.3 last.2 v last.4 all stopped (λ e. omega arith)

  pub faultless_at_end : least ≡ no_place → AreFaultless jobs
  faultless_at_end high = ends.faultless jobs workers last.0 least last.1 last.3 last.2 v last.4 all stopped high

  pub whole_at_end : least ≡ no_place → {X : Type 0} (gives : ℕ → X → Type 0) (list : List (ℕ × X)) → AreResults gives v.claimed list
      → IsWhole gives (length jobs) list
  whole_at_end high gives list r = ends.whole jobs workers last.0 least last.1 last.3 last.2 v last.4 all stopped high gives list r

-- the opening of a table over the same jobs is an opening over the work's jobs
pub opened_at : (jobs jobs' : List Job) (workers : ℕ) (v : View) → jobs ≡ jobs' → v ≡ opening_view jobs workers
    → v ≡ opening_view jobs' workers
opened_at jobs jobs' workers v a e = e ∙ ap (λ js. opening_view js workers) a

-- the end of a table over the same jobs, with as many workers, is an end over the work's jobs
pub last_of : (jobs jobs' : List Job) (workers workers' least : ℕ) (v : View) → jobs ≡ jobs' → workers ≡ workers' → IsLast jobs workers v least
    → IsLast jobs' workers' v least
last_of jobs jobs' workers workers' least v a b last = subst (λ m. IsLast jobs' m v least) b (subst (λ js. IsLast js workers v least) a last)
