-- What holds once all workers of a table have stopped, and their seats are joined to one.
use Rattle.std.proofs.Common.{◌≡◌, ℕ, zero, suc, ◌+◌, ◌*◌, ◌<◌, ◌≤◌, ◌≢◌, ◌==◌, min, true, List, [], ◌∷◌, map, length, set, get_or, sym, refl, ap, ◌∙◌, subst, inl, ⊎_elim, arith, Option, Some, None, IfSome, eq-eqb, ne_eqb}
use mathlib.Core.Option.{some}
use mathlib.Core.Logic.{dite}
use native.Mathlib.Decide.{ℕ_discrete, dec_le}
use lib.ListN.{get_elem?}
use Rattle.std.specs.List.{All}
use Rattle.std.proofs.lemmas.Option.{get_or_from_slice_get, none-some, same_Some, slice_get-get_or, slice_get_within}
use Rattle.std.proofs.lemmas.List.Elements.{All-head, All-tail, All-nil, All-cons, All-set, All-get_or, All-from_get_or}
use Rattle.claim_board.specs.declared.job.Job.{Job}
use Rattle.claim_board.specs.declared.job.JobState.{JobState}
use Rattle.claim_board.specs.declared.job.JobState.TheVariants.{Untouched, Held, Faulty, Done, Skipped, Lowered}
use Rattle.claim_board.specs.declared.view.ClaimedJob.{ClaimedJob}
use Rattle.claim_board.specs.declared.view.SeatWorker.{SeatWorker}
use Rattle.claim_board.specs.declared.view.View.{View}
use Rattle.claim_board.specs.Orders.{AreFaultless, IsLeastFault}
use Rattle.claim_board.specs.Running.{no_place, bit, open_weight, name_weight, blank_job, job_at, place_weight, lowered_weight, job_weight, open_count, name_count, lowered_count, crew_weight, one_at, stopped_count, stopped_count_of, weight_below, total, spent_view, IsGoodAt, IsGood, IsView, IsKept}
use Rattle.claim_board.specs.Work.{with_done, done_jobs, AreResults, HaveStopped}
use Rattle.claim_board.specs.Results.{times, IsWhole}
use Rattle.claim_board.proofs.AnyOrder.{sound_get}
use Rattle.claim_board.proofs.Totals.{total-set, total-append, each-at, bit-same, bit_le, job_weight-ones, stopped_count-le, weight_below-ones, weight_below-none, open_count-le, claimed_below}

abbrev ones : ℕ → ℕ
ones x = 1

zero_each : (f : View → ℕ) (l : List View) → total f l ≡ 0 → All (λ w. f w ≡ 0) l
zero_each f [] z = All-nil (λ w. f w ≡ 0)
zero_each f (x ∷ xs) z = All-cons (λ w. f w ≡ 0) x xs (omega arith) (zero_each f xs (omega arith))

all_zero : (P : View → Type 0) (f : View → ℕ) (l : List View) → ((w : View) → P w → f w ≡ 0) → All P l → total f l ≡ 0
all_zero P f [] z a = refl
all_zero P f (x ∷ xs) z a = let h = z x (All-head P x xs a) in let r = all_zero P f xs z (All-tail P x xs a) in omega arith

crew_weight-ones : (u : ℕ) (ms : List SeatWorker) → crew_weight (one_at u) ms ≤ crew_weight ones ms
crew_weight-ones u [] = omega arith
crew_weight-ones u (m ∷ ms) = let r = crew_weight-ones u ms in let b = bit_le (m.worker == u) in omega arith

names_some : (jobs : List Job) (least i : ℕ) (s : JobState) → IsGoodAt jobs least i s → (u : ℕ) × (name_weight u s ≡ 1)
names_some jobs least i Untouched g = absurd g
names_some jobs least i (Held w) g = (w, bit-same w)
names_some jobs least i (Faulty w) g = (w, bit-same w)
names_some jobs least i (Done w) g = (w, bit-same w)
names_some jobs least i (Skipped w) g = (w, bit-same w)
names_some jobs least i (Lowered w) g = (w, bit-same w)

claimed_none : (jobs : List Job) (least : ℕ) (cs : List ClaimedJob) → All (IsGood jobs least) cs → ((u : ℕ) → name_count u cs ≡ 0) → cs ≡ []
claimed_none jobs least [] a z = refl
claimed_none jobs least (c ∷ cs) a z =
    let n = names_some jobs least c.job c.state (All-head (IsGood jobs least) c cs a) in
    let e = z n.0 in
    let o = n.1 in
    absurd (omega arith)

stopped_count-all : (ms : List SeatWorker) → All (λ m. m.stopped ≡ true) ms → stopped_count ms ≡ crew_weight ones ms
stopped_count-all [] a = refl
stopped_count-all (m ∷ ms) a =
    let h : bit m.stopped ≡ 1 = ap bit (All-head (λ (m : SeatWorker). m.stopped ≡ true) m ms a) in
    let r = stopped_count-all ms (All-tail (λ (m : SeatWorker). m.stopped ≡ true) m ms a) in
    omega arith

stopped_count_of-all : (u : ℕ) (ms : List SeatWorker) → All (λ m. m.stopped ≡ true) ms → stopped_count_of u ms ≡ crew_weight (one_at u) ms
stopped_count_of-all u [] a = refl
stopped_count_of-all u (m ∷ ms) a =
    let h : bit (m.worker == u) * bit m.stopped ≡ bit (m.worker == u) * 1 =
    ap (λ b. bit (m.worker == u) * bit b) (All-head (λ (m : SeatWorker). m.stopped ≡ true) m ms a) in
    let r = stopped_count_of-all u ms (All-tail (λ (m : SeatWorker). m.stopped ≡ true) m ms a) in
    omega arith

abbrev Rests : ClaimedJob → Type 0
Rests c = (u : ℕ) → open_weight u c.state ≡ 0

busy_none : (cs : List ClaimedJob) → ((u : ℕ) → open_count u cs ≡ 0) → All Rests cs
busy_none [] z = All-nil Rests
busy_none (c ∷ cs) z = All-cons Rests c cs (λ u. let e = z u in omega arith) (busy_none cs (λ u. let e = z u in omega arith))

weight_below-one : (i n : ℕ) → i < n → 1 ≤ weight_below (one_at i) n
weight_below-one i zero lt = absurd (omega arith)
weight_below-one i (suc n) lt = dite (ℕ_discrete n i)
    (λ (e : n ≡ i). let one : bit (n == i) ≡ 1 = ap bit (eq-eqb n i e) in omega arith)
    (λ (ne : n ≢ i). let r = weight_below-one i n (omega arith) in omega arith)

find_claimed : (P : ClaimedJob → Type 0) (i : ℕ) (cs : List ClaimedJob) → All P cs → 0 < job_weight (one_at i) cs → (c : ClaimedJob) × (c.job ≡ i) × P c
find_claimed P i [] a p = absurd (omega arith)
find_claimed P i (c ∷ cs) a p = dite (ℕ_discrete c.job i)
    (λ (e : c.job ≡ i). (c, e, All-head P c cs a))
    (λ (ne : c.job ≢ i). let z : bit (c.job == i) ≡ 0 = ap bit (ne_eqb c.job i ne) in find_claimed P i cs (All-tail P c cs a) (omega arith))

find_lowered : (P : ClaimedJob → Type 0) (jobs : List Job) (x : ℕ) (cs : List ClaimedJob) → All P cs → 0 < lowered_count jobs x cs
    → (c : ClaimedJob) × P c × (0 < lowered_weight jobs x c.job c.state)
find_lowered P jobs x [] a p = absurd (omega arith)
find_lowered P jobs x (c ∷ cs) a p = go (dec_le 1 (lowered_weight jobs x c.job c.state)) (λ q. find_lowered P jobs x cs (All-tail P c cs a) q)
  where
    go : Dec (1 ≤ lowered_weight jobs x c.job c.state) → (0 < lowered_count jobs x cs → (d : ClaimedJob) × P d × (0 < lowered_weight jobs x d.job d.state))
        → (d : ClaimedJob) × P d × (0 < lowered_weight jobs x d.job d.state)
    go (yes y) r = (c, All-head P c cs a, y)
    go (no n) r = r (omega arith)

placed_at : (f : Option ℕ) (x : ℕ) → 0 < place_weight f x → f ≡ Some x
placed_at None x p = absurd (omega arith)
placed_at (Some y) x p = dite (ℕ_discrete y x)
    (λ (e : y ≡ x). ap (λ n. Some n) e)
    (λ (ne : y ≢ x). let z : bit (y == x) ≡ 0 = ap bit (ne_eqb y x ne) in absurd (omega arith))

lowered_fault : (jobs : List Job) (x i : ℕ) (s : JobState) → 0 < lowered_weight jobs x i s → (job_at jobs i).fault ≡ Some x
lowered_fault jobs x i Untouched p = absurd (omega arith)
lowered_fault jobs x i (Held w) p = absurd (omega arith)
lowered_fault jobs x i (Faulty w) p = absurd (omega arith)
lowered_fault jobs x i (Done w) p = absurd (omega arith)
lowered_fault jobs x i (Skipped w) p = absurd (omega arith)
lowered_fault jobs x i (Lowered w) p = placed_at (job_at jobs i).fault x p

-- the state is Done
abbrev IsDone : JobState → Type 0
IsDone s = (w : ℕ) × (s ≡ Done w)

times_done : (i j : ℕ) (s : JobState) (l : List ℕ) → IsDone s → times i (with_done j s l) ≡ bit (j == i) + times i l
times_done i j s l d =
    let a = total-append (one_at i) l (j ∷ []) in
    ap (λ q. times i (with_done j q l)) d.1 ∙ omega arith

done_times : (i : ℕ) (cs : List ClaimedJob) → All (λ c. IsDone c.state) cs → times i (done_jobs cs) ≡ job_weight (one_at i) cs
done_times i [] a = refl
done_times i (c ∷ cs) a =
    let t = times_done i c.job c.state (done_jobs cs) (All-head (λ (c : ClaimedJob). IsDone c.state) c cs a) in
    let r = done_times i cs (All-tail (λ (c : ClaimedJob). IsDone c.state) c cs a) in
    omega arith

times_in : {X : Type 0} (P : ℕ → Type 0) (l : List (ℕ × X)) → ((i : ℕ) → 0 < times i (map (λ p. p.0) l) → P i) → All (λ p. P p.0) l
times_in P [] h = All-nil (λ p. P p.0)
times_in P (x ∷ xs) h = All-cons (λ p. P p.0) x xs (h x.0 (let b = bit-same x.0 in omega arith)) (times_in P xs (λ i p. h i (omega arith)))

module _ (jobs : List Job) (workers next least : ℕ) (views : List View) (k : IsKept jobs workers next least views) (id : ℕ) (v : View)
    (at : get_elem? views id ≡ some v) (all : (h : ℕ → ℕ) → crew_weight h v.crew ≡ weight_below h workers) (stopped : HaveStopped v) where
  mine : IsView jobs workers least v
  mine = each-at (IsView jobs workers least) views id v at k.each

  abbrev others : List View
  others = set views id spent_view

  abbrev Idle : View → Type 0
  Idle w = IsView jobs workers least w × (crew_weight ones w.crew ≡ 0)

  idle_others : All Idle others
  idle_others =
      let each : All (IsView jobs workers least) others = All-set (IsView jobs workers least) views id spent_view
      (record { copy = inl refl; claimed = All-nil (IsGood jobs least); one = λ u. omega arith; own = λ u gone. refl }) k.each in
      let none_left : All (λ w. crew_weight ones w.crew ≡ 0) others =
      zero_each (λ w. crew_weight ones w.crew) others
      (let s = total-set (λ w. crew_weight ones w.crew) views id v spent_view at in let m = k.each_worker_once ones in let a = all ones in omega arith) in
      λ i d lt. (each i d lt, none_left i d lt)

  no_claimed : (w : View) → Idle w → w.claimed ≡ []
  no_claimed w i = claimed_none jobs least w.claimed i.0.claimed (λ u. i.0.own u (let m = crew_weight-ones u w.crew in let z = i.1 in omega arith))

  only : (f : View → ℕ) → ((w : View) → Idle w → f w ≡ 0) → f spent_view ≡ 0 → total f views ≡ f v
  only f z e = let s = total-set f views id v spent_view at in let t = all_zero Idle f others z idle_others in omega arith

  weights_all : (h : ℕ → ℕ) → job_weight h v.claimed ≡ weight_below h (min next (length jobs))
  weights_all h = sym (only (λ w. job_weight h w.claimed) (λ w i. ap (λ cs. job_weight h cs) (no_claimed w i)) refl) ∙ k.each_job_once h

  full : min next (length jobs) ≡ length jobs
  full =
      let c = k.claim_word in
      let o = only (λ w. length w.claimed + stopped_count w.crew)
      (λ w i. let l : length w.claimed ≡ 0 = ap (λ cs. length cs) (no_claimed w i) in let h = stopped_count-le w.crew in let z = i.1 in omega arith)
      (omega arith) in
      let w = weights_all ones in let wo = job_weight-ones v.claimed in let b = weight_below-ones (min next (length jobs)) in
      let h = stopped_count-all v.crew stopped in let a = all ones in let bw = weight_below-ones workers in let s = k.key.at_least_one in
      omega arith

  every : (h : ℕ → ℕ) → job_weight h v.claimed ≡ weight_below h (length jobs)
  every h = weights_all h ∙ ap (λ n. weight_below h n) full

  free : (u : ℕ) → open_count u v.claimed ≡ 0
  free u =
      let o = mine.one u in let h = stopped_count_of-all u v.crew stopped in let b = open_count-le u v.claimed in
      dite (ℕ_discrete (crew_weight (one_at u) v.crew) 0)
      (λ (e : crew_weight (one_at u) v.crew ≡ 0). let n = mine.own u e in omega arith)
      (λ (ne : crew_weight (one_at u) v.crew ≢ 0). omega arith)

  abbrev Fine : ClaimedJob → Type 0
  Fine c = IsGood jobs least c × Rests c × (c.job < length jobs)

  fine : All Fine v.claimed
  fine =
      let rests = busy_none v.claimed free in
      let within = claimed_below (length jobs) v.claimed (λ x le. every (one_at x) ∙ weight_below-none x (length jobs) le) in
      λ i d lt. (mine.claimed i d lt, rests i d lt, within i d lt)

  pub claimed_of : (i : ℕ) → i < length jobs → (c : ClaimedJob) × (c.job ≡ i) × Fine c
  claimed_of i lt = find_claimed Fine i v.claimed fine (let e = every (one_at i) in let b = weight_below-one i (length jobs) lt in omega arith)

  -- no fault was lowered to
  module _ (high : least ≡ no_place) where
    places_at : (i : ℕ) → i < length jobs → ((job_at jobs i).start < no_place) × IfSome (job_at jobs i).fault (λ x. x < no_place)
    places_at i lt = All-get_or (λ (a : Job). (a.start < no_place) × IfSome a.fault (λ x. x < no_place)) jobs i blank_job lt k.key.listed.places

    done_at : (i : ℕ) (s : JobState) → i < length jobs → IsGoodAt jobs least i s → ((u : ℕ) → open_weight u s ≡ 0) → IsDone s
    done_at i Untouched lt g r = absurd g
    done_at i (Held w) lt g r = let e = r w in let b = bit-same w in absurd (omega arith)
    done_at i (Faulty w) lt g r = let e = r w in let b = bit-same w in absurd (omega arith)
    done_at i (Done w) lt g r = (w, refl)
    done_at i (Skipped w) lt g r = let p = (places_at i lt).0 in absurd (omega arith)
    done_at i (Lowered w) lt g r =
        let p = (places_at i lt).1 in
        let q : g.0 < no_place = subst (λ f. IfSome f (λ x. x < no_place)) g.1 p in
        let l = g.2 in
        absurd (omega arith)

    all_done : All (λ c. IsDone c.state) v.claimed
    all_done = λ i d lt. let c = get_or v.claimed i d in let f : Fine c = fine i d lt in done_at c.job c.state f.2 f.0 f.1

    pub faultless : AreFaultless jobs
    faultless = All-from_get_or (λ a. a.fault ≡ None) jobs blank_job (λ i lt.
        let f = claimed_of i lt in
        subst (λ n. (job_at jobs n).fault ≡ None) f.1 (subst (IsGoodAt jobs least f.0.job) (done_at f.0.job f.0.state f.2.2 f.2.0 f.2.1).1 f.2.0))

    pub whole : {X : Type 0} (gives : ℕ → X → Type 0) (list : List (ℕ × X)) → AreResults gives v.claimed list → IsWhole gives (length jobs) list
    whole gives list r =
        let same : (i : ℕ) → times i (map (λ p. p.0) list) ≡ weight_below (one_at i) (length jobs) = λ i. ap (λ l. times i l) r.jobs
        ∙ (done_times i v.claimed all_done ∙ every (one_at i)) in
        record {
          within = times_in (λ i. i < length jobs) list (λ i p. let e = same i in go i (dec_le (length jobs) i) p);
          whole = λ i lt. let e = same i in let b = weight_below-one i (length jobs) lt in omega arith;
          given = r.given;
        }
      where
        go : (i : ℕ) → Dec (length jobs ≤ i) → 0 < times i (map (λ p. p.0) list) → i < length jobs
        go i (yes le) p =
            let z = weight_below-none i (length jobs) le in
            let e = ap (λ l. times i l) r.jobs ∙ (done_times i v.claimed all_done ∙ every (one_at i)) in
            absurd (omega arith)
        go i (no n) p = omega arith

  -- a fault was lowered to
  module _ (low : least ≢ no_place) where
    le_fault : (i : ℕ) (s : JobState) (y : ℕ) → i < length jobs → IsGoodAt jobs least i s → ((u : ℕ) → open_weight u s ≡ 0) → (job_at jobs i).fault ≡ Some y
        → least ≤ y
    le_fault i Untouched y lt g r e = absurd g
    le_fault i (Held w) y lt g r e = let z = r w in let b = bit-same w in absurd (omega arith)
    le_fault i (Faulty w) y lt g r e = let z = r w in let b = bit-same w in absurd (omega arith)
    le_fault i (Done w) y lt g r e = absurd (none-some y (sym g ∙ e))
    le_fault i (Skipped w) y lt g r e =
        let s : (job_at jobs i).start ≤ y = subst (λ f. IfSome f (λ x. (job_at jobs i).start ≤ x)) e
        (sound_get jobs i (job_at jobs i) k.key.listed.in_order (slice_get-get_or jobs i blank_job lt)) in
        omega arith
    le_fault i (Lowered w) y lt g r e = let s = same_Some g.0 y (sym g.1 ∙ e) in let l = g.2 in omega arith

    lowest : 0 < lowered_count jobs least v.claimed
    lowest = ⊎_elim (λ (e : least ≡ no_place). absurd (low e))
        (λ (p : 0 < total (λ w. lowered_count jobs least w.claimed) views).
        let o = only (λ w. lowered_count jobs least w.claimed) (λ w i. ap (λ cs. lowered_count jobs least cs) (no_claimed w i)) refl in
        omega arith) k.fault_word

    pub least_fault : IsLeastFault jobs least
    least_fault =
        let f = find_lowered Fine jobs least v.claimed fine lowest in
        record {
          found = (f.0.job, job_at jobs f.0.job, slice_get-get_or jobs f.0.job blank_job f.1.2, lowered_fault jobs least f.0.job f.0.state f.2);
          least = λ i job y there e.
              let is : job_at jobs i ≡ job = get_or_from_slice_get jobs i job blank_job there in
              let lt = slice_get_within jobs i job there in
              let c = claimed_of i lt in
              le_fault i c.0.state y lt (subst (λ n. IsGoodAt jobs least n c.0.state) c.1 c.2.0) c.2.1 (ap (λ (j : Job). j.fault) is ∙ e);
        }
