-- A table at its start keeps the running rule.
use Rattle.std.proofs.Common.{◌≡◌, ℕ, zero, suc, ◌+◌, ◌≤◌, min, false, List, [], ◌∷◌, length, map, refl, sym, ap, subst, inl, inr, arith}
use Rattle.std.specs.List.{All}
use Rattle.std.proofs.lemmas.List.Elements.{All-nil, All-cons}
use Rattle.atomic_table.specs.Seated.{TableId}
use Rattle.atomic_table.specs.declared.shared.Seat.{Seat}
use Rattle.claim_board.specs.declared.job.Job.{Job}
use Rattle.claim_board.specs.declared.view.SeatWorker.{SeatWorker}
use Rattle.claim_board.specs.declared.view.View.{View}
use Rattle.claim_board.specs.Running.{AreWorkJobs, no_place, seat_worker, crew_weight, stopped_count, stopped_count_of, weight_below, IsGood, IsView, IsKept, crew_of, opening_view}
use Rattle.claim_board.specs.Steps.{IsSeatAt}
use Rattle.claim_board.specs.Work.{IsFresh, MayShare}

crew_weight-crew : (h : ℕ → ℕ) (n : ℕ) → crew_weight h (crew_of n) ≡ weight_below h n
crew_weight-crew h zero = refl
crew_weight-crew h (suc n) = ap (λ k. h n + k) (crew_weight-crew h n)

stopped_count-crew : (n : ℕ) → stopped_count (crew_of n) ≡ 0
stopped_count-crew zero = refl
stopped_count-crew (suc n) = let r = stopped_count-crew n in omega arith

stopped_count_of-crew : (u n : ℕ) → stopped_count_of u (crew_of n) ≡ 0
stopped_count_of-crew u zero = refl
stopped_count_of-crew u (suc n) = let r = stopped_count_of-crew u n in omega arith

pub length-crew : (n : ℕ) → length (crew_of n) ≡ n
length-crew zero = refl
length-crew (suc n) = ap suc (length-crew n)

pub fresh-crew : (n : ℕ) → All (λ m. m.stopped ≡ false) (crew_of n)
fresh-crew zero = All-nil (λ (m : SeatWorker). m.stopped ≡ false)
fresh-crew (suc n) = All-cons (λ (m : SeatWorker). m.stopped ≡ false) (seat_worker n false) (crew_of n) refl (fresh-crew n)

pub opening_kept : (jobs : List Job) (workers : ℕ) → AreWorkJobs jobs → 1 ≤ workers → workers ≤ 64
    → IsKept jobs workers 0 no_place (opening_view jobs workers ∷ [])
opening_kept jobs workers listed low high = record {
  key = record { listed = listed; at_least_one = low; at_most_64 = high };
  each = All-cons (IsView jobs workers no_place) (opening_view jobs workers) []
      (record {
        copy = inr (refl, refl);
        claimed = All-nil (IsGood jobs no_place);
        one = λ u.
            let z = stopped_count_of-crew u workers in
            omega arith;
        own = λ u gone. refl;
      })
      (All-nil (IsView jobs workers no_place));
  each_job_once = λ h.
      let z : min 0 (length jobs) ≡ 0 = omega arith in
      let b : weight_below h (min 0 (length jobs)) ≡ weight_below h 0 = ap (λ n. weight_below h n) z in
      omega arith;
  each_worker_once = λ h. let m = crew_weight-crew h workers in omega arith;
  claim_word = let z = stopped_count-crew workers in omega arith;
  fault_word = inl refl;
}

-- the seat of all workers may share the jobs
pub may_share : (table : TableId) (jobs : List Job) (workers : ℕ) (seat : Seat (Unit {0}) View) → IsSeatAt table seat
    → seat.me.0 ≡ opening_view jobs workers → 1 ≤ workers → MayShare table jobs workers seat
may_share table jobs workers seat place is low = record {
  place = place;
  over = ap (λ v. v.jobs) is;
  fresh = subst IsFresh (sym is) (record { claimed = refl; crew = fresh-crew workers });
  crew = subst (λ v. length v.crew ≡ workers) (sym is) (length-crew workers);
  at_least_one = low;
}

-- two crews with the same workers weigh the same
pub crew_weight-same : (h : ℕ → ℕ) (a b : List SeatWorker) → map (λ (m : SeatWorker). m.worker) a ≡ map (λ (m : SeatWorker). m.worker) b
    → crew_weight h a ≡ crew_weight h b
crew_weight-same h [] [] e = refl
crew_weight-same h [] (m ∷ ms) e = absurd (cc)
crew_weight-same h (m ∷ ms) [] e = absurd (cc)
crew_weight-same h (m ∷ ms) (n ∷ ns) e =
    let here : m.worker ≡ n.worker = cc in
    let rest : map (λ (m : SeatWorker). m.worker) ms ≡ map (λ (m : SeatWorker). m.worker) ns = cc in
    let r = crew_weight-same h ms ns rest in let s = ap h here in omega arith

pub crew_weight-opening_view : (h : ℕ → ℕ) (a : List SeatWorker) (n : ℕ)
    → map (λ (m : SeatWorker). m.worker) a ≡ map (λ (m : SeatWorker). m.worker) (crew_of n) → crew_weight h a ≡ weight_below h n
crew_weight-opening_view h a n e = let r = crew_weight-same h a (crew_of n) e in let m = crew_weight-crew h n in omega arith
