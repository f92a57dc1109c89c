-- Each step on the two words keeps the running rule.
use Rattle.std.proofs.Common.{◌≡◌, ℕ, suc, ◌+◌, ◌%◌, ◌^◌, ◌<◌, ◌≤◌, ◌⊎◌, ltb, min, Bool, true, false, cond, List, [], ◌∷◌, length, set, sym, refl, ap, ◌∙◌, subst, inl, inr, ⊎_elim, arith, eq-eqb, Option, Some, None, IfSome}
use mathlib.Core.Option.{none, some}
use lib.ListN.{get_elem?}
use Rattle.std.proofs.lemmas.Bool.{ltb-true, ltb-false}
use native.Mathlib.Decide.{dec_le}
use Rattle.std.specs.List.{All}
use Rattle.std.proofs.lemmas.List.Elements.{All-head, All-tail, All-cons, All-set, All-weaker, All-get_or}
use Rattle.atomic_table.specs.Table.{keeps, step, Allows}
use Rattle.claim_board.specs.declared.job.Job.{Job}
use Rattle.claim_board.specs.declared.job.JobState.{JobState}
use Rattle.claim_board.specs.declared.job.JobState.TheVariants.{Untouched, Held, Faulty, Done, Skipped, Lowered}
use Rattle.claim_board.specs.declared.view.ClaimedJob.{ClaimedJob}
use Rattle.claim_board.specs.declared.view.View.{View}
use Rattle.claim_board.specs.Board.{state_by_fault}
use Rattle.claim_board.specs.Running.{blank_job, no_place, bit, claimed_job, seat_worker, open_weight, name_weight, job_at, place_weight, lowered_weight, job_weight, open_count, lowered_count, crew_weight, one_at, stopped_count, weight_below, total, spent_view, IsGoodAt, IsGood, IsView, IsKept, IsRuled}
use Rattle.claim_board.specs.Steps.{Known, first_of, view_after_claim, view_after_look, view_after_lower, TellsClaim, TellsLook, TellsLower, IsOne}
use Rattle.claim_board.proofs.Totals.{total-set, total-plus, total-le, total-at, each-at, one_more, bit-same, job_weight-ones, stopped_count-le, weight_below-ones, weight_below-none, claimed_below}

good_down : (jobs : List Job) (least less i : ℕ) (s : JobState) → less ≤ least → IsGoodAt jobs least i s → IsGoodAt jobs less i s
good_down jobs least less i Untouched le g = g
good_down jobs least less i (Held u) le g = g
good_down jobs least less i (Faulty u) le g = g
good_down jobs least less i (Done u) le g = g
good_down jobs least less i (Skipped u) le g = omega arith
good_down jobs least less i (Lowered u) le g = (g.0, g.1, omega (arith, g.2))

view_down : (jobs : List Job) (workers least less : ℕ) (v : View) → less ≤ least → IsView jobs workers least v → IsView jobs workers less v
view_down jobs workers least less v le r = record {
  copy = r.copy;
  claimed = All-weaker (IsGood jobs least) (IsGood jobs less) (λ c g. good_down jobs least less c.job c.state le g) v.claimed r.claimed;
  one = r.one;
  own = r.own;
}

-- a view with one worker
abbrev pub solo : List Job → ℕ → List ClaimedJob → ℕ → Bool → View
solo jobs workers cs w b = record { jobs = jobs; workers = workers; claimed = cs; crew = seat_worker w b ∷ [] }

module _ (jobs : List Job) (workers next least : ℕ) (views : List View) (k : IsKept jobs workers next least views) where
  pub moved : (id : ℕ) (v w : View) (next' least' : ℕ) → get_elem? views id ≡ some v → least' ≤ least → IsView jobs workers least' w
      → ((h : ℕ → ℕ) → job_weight h w.claimed + weight_below h (min next (length jobs)) ≡ job_weight h v.claimed + weight_below h (min next' (length jobs)))
      → ((h : ℕ → ℕ) → crew_weight h w.crew ≡ crew_weight h v.crew)
      → next' + (length v.claimed + stopped_count v.crew) ≡ next + (length w.claimed + stopped_count w.crew)
      → (least' ≡ no_place) ⊎ (0 < total (λ u. lowered_count jobs least' u.claimed) (set views id w))
      → IsKept jobs workers next' least' (set views id w)
  moved id v w next' least' at low view jobs_same crew_same count_same least_same = record {
    key = k.key;
    each = All-set (IsView jobs workers least') views id w view
        (All-weaker (IsView jobs workers least) (IsView jobs workers least') (λ u r. view_down jobs workers least least' u low r) views k.each);
    each_job_once = λ h. let s = total-set (λ u. job_weight h u.claimed) views id v w at in let c = k.each_job_once h in let j = jobs_same h in omega arith;
    each_worker_once = λ h. let s = total-set (λ u. crew_weight h u.crew) views id v w at in let c = k.each_worker_once h in let j = crew_same h in omega arith;
    claim_word = let s = total-set (λ u. length u.claimed + stopped_count u.crew) views id v w at in let c = k.claim_word in omega arith;
    fault_word = least_same;
  }

  -- a view with one worker has the table's jobs and number of workers
  pub known : (id : ℕ) (v : View) (w : ℕ) (b : Bool) (cs : List ClaimedJob) → get_elem? views id ≡ some v → IsOne v w b → v.claimed ≡ cs
      → v ≡ solo jobs workers cs w b
  known id v w b cs at one is = ⊎_elim
      (λ (e : v ≡ spent_view). absurd (let n : [] ≡ seat_worker w b ∷ [] = sym (ap (λ u. u.crew) e) ∙ one in cc))
      (λ (e : (v.jobs ≡ jobs) × (v.workers ≡ workers)). λ i. record { jobs = e.0 i; workers = e.1 i; claimed = is i; crew = one i })
      ((each-at (IsView jobs workers least) views id v at k.each).copy)

  -- the claim word never passes the jobs and the workers
  pub bounded : next ≤ length jobs + workers
  bounded =
      let c : total (λ v. job_weight (λ _. 1) v.claimed) views ≡ min next (length jobs) = k.each_job_once (λ _. 1) ∙ weight_below-ones (min next (length jobs)) in
      let m : total (λ v. crew_weight (λ _. 1) v.crew) views ≡ workers = k.each_worker_once (λ _. 1) ∙ weight_below-ones workers in
      let p = total-plus (λ v. job_weight (λ _. 1) v.claimed) (λ v. crew_weight (λ _. 1) v.crew) views in
      let l = total-le (λ v. length v.claimed + stopped_count v.crew) (λ v. job_weight (λ _. 1) v.claimed + crew_weight (λ _. 1) v.crew) views
      (λ v. let a = job_weight-ones v.claimed in let b = stopped_count-le v.crew in omega arith) in
      let n = k.claim_word in
      omega arith

  -- the jobs of a view are below the claim word, and jobs of the table
  pub below : (n id : ℕ) (v : View) → min next (length jobs) ≤ n → get_elem? views id ≡ some v → All (λ c. c.job < n) v.claimed
  below n id v fits at = claimed_below n v.claimed (λ x le.
      let t = total-at (λ u. job_weight (one_at x) u.claimed) views id v at in
      let c = k.each_job_once (one_at x) in
      let b = weight_below-none x (min next (length jobs)) (omega arith) in
      omega arith)

  -- the worker of a view is one of the table's
  pub works : (id w : ℕ) (cs : List ClaimedJob) → get_elem? views id ≡ some (solo jobs workers cs w false) → w < workers
  works id w cs at = go (dec_le workers w)
    where
      go : Dec (workers ≤ w) → w < workers
      go (yes le) =
          let t = total-at (λ u. crew_weight (one_at w) u.crew) views id (solo jobs workers cs w false) at in
          let m = k.each_worker_once (one_at w) in
          let b = weight_below-none w workers le in
          let o = bit-same w in
          absurd (omega arith)
      go (no n) = omega arith

  told_still : (id : ℕ) (v w : View) → get_elem? views id ≡ some v → lowered_count jobs least v.claimed ≤ lowered_count jobs least w.claimed
      → (least ≡ no_place) ⊎ (0 < total (λ u. lowered_count jobs least u.claimed) (set views id w))
  told_still id v w at le = ⊎_elim (λ (e : least ≡ no_place). inl e) (λ (p : 0 < total (λ u. lowered_count jobs least u.claimed) views). inr (
      let s = total-set (λ u. lowered_count jobs least u.claimed) views id v w at in
      omega arith)) k.fault_word

  module _ (id w : ℕ) (cs : List ClaimedJob) (at : get_elem? views id ≡ some (solo jobs workers cs w false)) (free : open_count w cs ≡ 0) where
    was : IsView jobs workers least (solo jobs workers cs w false)
    was = each-at (IsView jobs workers least) views id (solo jobs workers cs w false) at k.each

    claims_if : (b : Bool) → ltb next (length jobs) ≡ b
        → IsKept jobs workers (next + 1) least
        (set views id (cond b (solo jobs workers (claimed_job next (Held w) ∷ cs) w false) (solo jobs workers cs w true)))
    claims_if true is =
        let lt : next < length jobs = ltb-true next (length jobs) is in
        let v : View = solo jobs workers cs w false in
        let new : View = solo jobs workers (claimed_job next (Held w) ∷ cs) w false in
        moved id v new (next + 1) least at (omega arith)
        (record {
          copy = inr (refl, refl);
          claimed = All-cons (IsGood jobs least) (claimed_job next (Held w)) cs tt was.claimed;
          one = λ u. let o = was.one u in let m = one_more w u (λ x. open_count x cs) free (omega arith) in omega arith;
          own = λ u gone. let o = was.own u gone in omega arith;
        })
        (λ h.
        let a : weight_below h (min next (length jobs)) ≡ weight_below h next = ap (weight_below h) (omega arith) in
        let up : min (next + 1) (length jobs) ≡ suc next = omega arith in
        let b : weight_below h (min (next + 1) (length jobs)) ≡ weight_below h (suc next) = ap (λ n. weight_below h n) up in
        omega arith)
        (λ h. refl)
        (omega arith)
        (told_still id v new at (omega arith))
    claims_if false is =
        let le : length jobs ≤ next = ltb-false next (length jobs) is in
        let v : View = solo jobs workers cs w false in
        let new : View = solo jobs workers cs w true in
        moved id v new (next + 1) least at (omega arith)
        (record {
          copy = inr (refl, refl);
          claimed = was.claimed;
          one = λ u. let o = was.one u in let m = one_more w u (λ x. open_count x cs) free (omega arith) in omega arith;
          own = λ u gone. was.own u gone;
        })
        (λ h.
        let a : weight_below h (min next (length jobs)) ≡ weight_below h (length jobs) = ap (weight_below h) (omega arith) in
        let b : weight_below h (min (next + 1) (length jobs)) ≡ weight_below h (length jobs) = ap (weight_below h) (omega arith) in
        omega arith)
        (λ h. refl)
        (omega arith)
        (told_still id v new at (omega arith))

    pub claims_kept : IsKept jobs workers (next + 1) least (set views id (view_after_claim (solo jobs workers cs w false) next))
    claims_kept = claims_if (ltb next (length jobs)) refl

  module _ (id w i : ℕ) (s : JobState) (cs : List ClaimedJob) (at : get_elem? views id ≡ some (solo jobs workers (claimed_job i s ∷ cs) w false)) where
    had : IsView jobs workers least (solo jobs workers (claimed_job i s ∷ cs) w false)
    had = each-at (IsView jobs workers least) views id (solo jobs workers (claimed_job i s ∷ cs) w false) at k.each

    -- the job that was claimed last goes to another state
    remarked : (t : JobState) (less : ℕ) → less ≤ least → IsGoodAt jobs less i t → ((u : ℕ) → open_weight u t ≤ open_weight u s)
        → ((u : ℕ) → name_weight u t ≡ name_weight u s)
        → (less ≡ no_place) ⊎ (0 < total (λ u. lowered_count jobs less u.claimed) (set views id (solo jobs workers (claimed_job i t ∷ cs) w false)))
        → IsKept jobs workers next less (set views id (solo jobs workers (claimed_job i t ∷ cs) w false))
    remarked t less low good pend same told =
        moved id (solo jobs workers (claimed_job i s ∷ cs) w false) (solo jobs workers (claimed_job i t ∷ cs) w false) next less at low
        (record {
          copy = inr (refl, refl);
          claimed = All-cons (IsGood jobs less) (claimed_job i t) cs good
              (All-weaker (IsGood jobs least) (IsGood jobs less) (λ c g. good_down jobs least less c.job c.state low g) cs
              (All-tail (IsGood jobs least) (claimed_job i s) cs had.claimed));
          one = λ u. let o = had.one u in let p = pend u in omega arith;
          own = λ u gone. let o = had.own u gone in let p = same u in omega arith;
        })
        (λ h. refl)
        (λ h. refl)
        refl
        told

    told_on : (t : JobState) → lowered_weight jobs least i s ≤ lowered_weight jobs least i t
        → (least ≡ no_place) ⊎ (0 < total (λ u. lowered_count jobs least u.claimed) (set views id (solo jobs workers (claimed_job i t ∷ cs) w false)))
    told_on t le = told_still id (solo jobs workers (claimed_job i s ∷ cs) w false) (solo jobs workers (claimed_job i t ∷ cs) w false) at (omega arith)

  module _ (id w i : ℕ) (cs : List ClaimedJob) (at : get_elem? views id ≡ some (solo jobs workers (claimed_job i (Held w) ∷ cs) w false)) where
    look_fault : (f : Option ℕ) → (job_at jobs i).fault ≡ f
        → IsKept jobs workers next least (set views id (solo jobs workers (claimed_job i (state_by_fault f w) ∷ cs) w false))
    look_fault None e = remarked id w i (Held w) cs at (Done w) least (omega arith) e (λ u. omega arith) (λ u. refl)
        (told_on id w i (Held w) cs at (Done w) (omega arith))
    look_fault (Some x) e = remarked id w i (Held w) cs at (Faulty w) least (omega arith) (x, e) (λ u. omega arith) (λ u. refl)
        (told_on id w i (Held w) cs at (Faulty w) (omega arith))

    look_if : (b : Bool) → ltb least (job_at jobs i).start ≡ b
        → IsKept jobs workers next least
        (set views id (solo jobs workers (claimed_job i (cond b (Skipped w) (state_by_fault (job_at jobs i).fault w)) ∷ cs) w false))
    look_if true is = remarked id w i (Held w) cs at (Skipped w) least (omega arith) (ltb-true least (job_at jobs i).start is) (λ u. omega arith) (λ u. refl)
        (told_on id w i (Held w) cs at (Skipped w) (omega arith))
    look_if false is = look_fault (job_at jobs i).fault refl

    pub looks_kept : IsKept jobs workers next least (set views id (view_after_look (solo jobs workers (claimed_job i (Held w) ∷ cs) w false) least))
    looks_kept = look_if (ltb least (job_at jobs i).start) refl

  module _ (id w i place : ℕ) (cs : List ClaimedJob) (at : get_elem? views id ≡ some (solo jobs workers (claimed_job i (Faulty w) ∷ cs) w false))
      (fault : (job_at jobs i).fault ≡ Some place) (fits : place ≤ no_place) where
    abbrev after : List View
    after = set views id (solo jobs workers (claimed_job i (Lowered w) ∷ cs) w false)

    told_less : Dec (place ≤ least) → (min least place ≡ no_place) ⊎ (0 < total (λ u. lowered_count jobs (min least place) u.claimed) after)
    told_less (yes le) =
        let s = total-set (λ u. lowered_count jobs (min least place) u.claimed) views id (solo jobs workers (claimed_job i (Faulty w) ∷ cs) w false)
        (solo jobs workers (claimed_job i (Lowered w) ∷ cs) w false) at in
        let same : place ≡ min least place = omega arith in
        let one : place_weight (job_at jobs i).fault (min least place) ≡ 1 = ap (λ f. place_weight f (min least place)) fault
        ∙ ap bit (eq-eqb place (min least place) same) in
        inr (omega arith)
    told_less (no more) =
        let same : min least place ≡ least = omega arith in
        ⊎_elim
        (λ (e : least ≡ no_place). absurd (omega arith))
        (λ (p : 0 < total (λ u. lowered_count jobs least u.claimed) views).
        let s = total-set (λ u. lowered_count jobs least u.claimed) views id (solo jobs workers (claimed_job i (Faulty w) ∷ cs) w false)
        (solo jobs workers (claimed_job i (Lowered w) ∷ cs) w false) at in
        inr (subst (λ z. 0 < total (λ u. lowered_count jobs z u.claimed) after) (sym same) (omega arith)))
        k.fault_word

    pub lowers_kept : IsKept jobs workers next (min least place) after
    lowers_kept = remarked id w i (Faulty w) cs at (Lowered w) (min least place) (omega arith) (place, fault, omega arith) (λ u. omega arith) (λ u. refl)
        (told_less (dec_le place least))

pub claim_allowed : (jobs : List Job) (workers slots id : ℕ) (me : Known) (w : ℕ) → IsOne me.0 w false → open_count w me.0.claimed ≡ 0
    → Allows (IsRuled jobs workers) slots id me 0 (λ n. (n + 1) % 2 ^ 64) (TellsClaim (step slots 0 1 0 none) me)
claim_allowed jobs workers slots id me w one free s held _ at _ =
    let next : ℕ = held.0 in
    let least : ℕ = held.1 in
    let k : IsKept jobs workers next least s.views = held.3 in
    let is : me.0 ≡ solo jobs workers me.0.claimed w false = known jobs workers next least s.views k id me.0 w false me.0.claimed at one refl in
    let there : get_elem? s.views id ≡ some (solo jobs workers me.0.claimed w false) = at ∙ ap (λ u. some u) is in
    let kept : IsKept jobs workers (next + 1) least (set s.views id (view_after_claim me.0 next)) =
    subst (λ u. IsKept jobs workers (next + 1) least (set s.views id (view_after_claim u next))) (sym is)
    (claims_kept jobs workers next least s.views k id w me.0.claimed there free) in
    let top = bounded jobs workers next least s.views k in
    let few = k.key.listed.few in
    let most = k.key.at_most_64 in
    let wraps : (next + 1) % 18446744073709551616 ≡ next + 1 = omega arith in
    rw held.2 (
      view_after_claim me.0 next,
      keeps,
      tt,
      (next + 1, least, ap (λ n. n ∷ least ∷ []) wraps, kept),
      (
        refl,
        refl,
        below jobs workers next least s.views k next id me.0 (omega arith) at,
        subst (λ u. first_of u.crew < u.workers) (sym is) (works jobs workers next least s.views k id w me.0.claimed there),
      ),
    )

pub look_allowed : (jobs : List Job) (workers slots id : ℕ) (me : Known) (w i : ℕ) (cs : List ClaimedJob) → IsOne me.0 w false
    → me.0.claimed ≡ claimed_job i (Held w) ∷ cs
    → Allows (IsRuled jobs workers) slots id me 1 (λ n. n) (TellsLook (step slots 1 0 0 none) me)
look_allowed jobs workers slots id me w i cs one top s held _ at _ =
    let next : ℕ = held.0 in
    let least : ℕ = held.1 in
    let k : IsKept jobs workers next least s.views = held.3 in
    let is : me.0 ≡ solo jobs workers (claimed_job i (Held w) ∷ cs) w false =
    known jobs workers next least s.views k id me.0 w false (claimed_job i (Held w) ∷ cs) at one top in
    let there : get_elem? s.views id ≡ some (solo jobs workers (claimed_job i (Held w) ∷ cs) w false) = at ∙ ap (λ u. some u) is in
    let kept : IsKept jobs workers next least (set s.views id (view_after_look me.0 least)) =
    subst (λ u. IsKept jobs workers next least (set s.views id (view_after_look u least))) (sym is)
    (looks_kept jobs workers next least s.views k id w i cs there) in
    rw held.2 (
      view_after_look me.0 least,
      keeps,
      tt,
      (next, least, refl, kept),
      (
        refl,
        refl,
        subst (λ u. All (λ c. c.job < length u.jobs) u.claimed) (sym is)
            (below jobs workers next least s.views k (length jobs) id (solo jobs workers (claimed_job i (Held w) ∷ cs) w false) (omega arith) there),
        subst (λ u. first_of u.crew < u.workers) (sym is) (works jobs workers next least s.views k id w (claimed_job i (Held w) ∷ cs) there),
      ),
    )

pub lower_allowed : (jobs : List Job) (workers slots id : ℕ) (me : Known) (w i place : ℕ) (cs : List ClaimedJob) → IsOne me.0 w false
    → me.0.claimed ≡ claimed_job i (Faulty w) ∷ cs
    → (job_at me.0.jobs i).fault ≡ Some place → place ≤ no_place
    → Allows (IsRuled jobs workers) slots id me 1 (λ n. min n place) (TellsLower (step slots 1 place 0 none) me)
lower_allowed jobs workers slots id me w i place cs one top fault fits s held _ at _ =
    let next : ℕ = held.0 in
    let least : ℕ = held.1 in
    let k : IsKept jobs workers next least s.views = held.3 in
    let is : me.0 ≡ solo jobs workers (claimed_job i (Faulty w) ∷ cs) w false =
    known jobs workers next least s.views k id me.0 w false (claimed_job i (Faulty w) ∷ cs) at one top in
    let there : get_elem? s.views id ≡ some (solo jobs workers (claimed_job i (Faulty w) ∷ cs) w false) = at ∙ ap (λ u. some u) is in
    let fault' : (job_at jobs i).fault ≡ Some place = sym (ap (λ u. (job_at u.jobs i).fault) is) ∙ fault in
    let kept : IsKept jobs workers next (min least place) (set s.views id (view_after_lower me.0)) =
    subst (λ u. IsKept jobs workers next (min least place) (set s.views id (view_after_lower u))) (sym is)
    (lowers_kept jobs workers next least s.views k id w i place cs there fault' fits) in
    let within = below jobs workers next least s.views k (length jobs) id (solo jobs workers (claimed_job i (Faulty w) ∷ cs) w false) (omega arith) there in
    let lt : i < length jobs = All-head (λ (c : ClaimedJob). c.job < length jobs) (claimed_job i (Faulty w)) cs within in
    let placed = All-get_or (λ (a : Job). (a.start < no_place) × IfSome a.fault (λ x. x < no_place)) jobs i blank_job lt k.key.listed.places in
    let low : place < no_place = subst (λ f. IfSome f (λ x. x < no_place)) fault' placed.1 in
    rw held.2 (
      view_after_lower me.0,
      keeps,
      tt,
      (next, min least place, refl, kept),
      (
        refl,
        refl,
        subst (λ u. All (λ c. c.job < length u.jobs) u.claimed) (sym is) within,
        subst (λ u. first_of u.crew < u.workers) (sym is) (works jobs workers next least s.views k id w (claimed_job i (Faulty w) ∷ cs) there),
        low,
      ),
    )
