-- Claim, look and lower on the two words are the steps of that name on the board as a view shows it.
use Rattle.std.proofs.Common.{◌≡◌, ℕ, zero, suc, ◌+◌, ◌<◌, ◌≤◌, ◌≢◌, ◌==◌, ltb, min, Bool, true, false, cond, List, [], ◌∷◌, map, length, set, sym, refl, ap, ◌∙◌, subst, arith, Option, Some, None, eq-eqb, ne_eqb}
use mathlib.Core.Logic.{dite}
use native.Mathlib.Decide.{ℕ_discrete}
use Rattle.std.specs.List.{All, range_with_len, slice_get}
use Rattle.std.proofs.lemmas.Bool.{ltb-true, le-ltb}
use Rattle.std.proofs.lemmas.Option.{same_Some, slice_get-get_or, slice_get_within}
use Rattle.std.proofs.lemmas.List.FromFn.{get_or-map-range_with_len, length-map-range_with_len}
use Rattle.std.proofs.lemmas.List.Elements.{All-head}
use Rattle.claim_board.specs.declared.job.Job.{Job}
use Rattle.claim_board.specs.declared.job.JobState.{JobState}
use Rattle.claim_board.specs.declared.job.JobState.TheVariants.{Held, Faulty, Skipped, Lowered}
use Rattle.claim_board.specs.declared.job.Act.TheVariants.{Claim, Look, Lower}
use Rattle.claim_board.specs.declared.view.ClaimedJob.{ClaimedJob}
use Rattle.claim_board.specs.declared.view.SeatWorker.{SeatWorker}
use Rattle.claim_board.specs.declared.view.View.{View}
use Rattle.claim_board.specs.Board.{MayClaim, state_after_look, is_least_below, state_by_fault, lesser_of, IsStep}
use Rattle.claim_board.specs.Running.{no_place, blank_job, job_at, claimed_job, seat_worker, open_weight, open_count}
use Rattle.claim_board.specs.Steps.{view_after_claim, view_after_look, view_after_lower, state_after_load, first_of, worker_of, IsOne, state_in, has_stopped_in, least_of, board_of, step_by}
use Rattle.claim_board.proofs.Totals.{bit-same}
use Rattle.claim_board.proofs.Keeps.{solo}

module _ {A : Type 0} (f g : ℕ → A) where
  map_same : (k n : ℕ) → ((x : ℕ) → k ≤ x → f x ≡ g x) → map f (range_with_len k n) ≡ map g (range_with_len k n)
  map_same k zero h = refl
  map_same k (suc n) h = λ i. h k (omega arith) i ∷ map_same (k + 1) n (λ x le. h x (omega arith)) i

  map_set : (k n j : ℕ) (a : A) → j < n → f (k + j) ≡ a → ((x : ℕ) → x ≢ k + j → f x ≡ g x) → map f (range_with_len k n) ≡ set (map g (range_with_len k n)) j a
  map_set k zero j a lt here else_where = absurd (omega arith)
  map_set k (suc n) zero a lt here else_where =
      let e : f k ≡ a = ap f (omega arith) ∙ here in
      λ i. e i ∷ map_same (k + 1) n (λ x le. else_where x (omega arith)) i
  map_set k (suc n) (suc j) a lt here else_where =
      let same : k + 1 + j ≡ k + suc j = omega arith in
      let head : f k ≡ g k = else_where k (omega arith) in
      let tail = map_set (k + 1) n j a (omega arith) (ap f same ∙ here) (λ x ne. else_where x (λ q. ne (omega arith))) in
      λ i. head i ∷ tail i

get_map : {A : Type 0} (f : ℕ → A) (k n j : ℕ) → j < n → slice_get (map f (range_with_len k n)) j ≡ Some (f (k + j))
get_map f k n j lt =
    slice_get-get_or (map f (range_with_len k n)) j (f k) (let long = length-map-range_with_len f k n in omega arith)
    ∙ ap (λ x. Some x) (get_or-map-range_with_len f k n j (k + j) (f k) lt refl)

got_map : {A : Type 0} (f : ℕ → A) (k n j : ℕ) (a : A) → slice_get (map f (range_with_len k n)) j ≡ Some a → a ≡ f (k + j)
got_map f k n j a e =
    let within = slice_get_within (map f (range_with_len k n)) j a e in
    let long = length-map-range_with_len f k n in
    same_Some a (f (k + j)) (sym e ∙ get_map f k n j (omega arith))

if_same : {A : Type 0} (i : ℕ) (a b : A) → cond (i == i) a b ≡ a
if_same i a b = ap (λ q. cond q a b) (eq-eqb i i refl)

if_other : {A : Type 0} (i x : ℕ) (a b : A) → x ≢ i → cond (i == x) a b ≡ b
if_other i x a b ne = let apart : i ≢ x = λ q. ne (sym q) in ap (λ q. cond q a b) (ne_eqb i x apart)

pending_in : (w i : ℕ) (cs : List ClaimedJob) → open_weight w (state_in cs i) ≤ open_count w cs
pending_in w i [] = omega arith
pending_in w i (c ∷ cs) = dite (ℕ_discrete c.job i)
    (λ (e : c.job ≡ i).
    let s : open_weight w (cond (c.job == i) c.state (state_in cs i)) ≡ open_weight w c.state =
    ap (λ q. open_weight w (cond q c.state (state_in cs i))) (eq-eqb c.job i e) in
    omega arith)
    (λ (ne : c.job ≢ i).
    let r = pending_in w i cs in
    let s : open_weight w (cond (c.job == i) c.state (state_in cs i)) ≡ open_weight w (state_in cs i) =
    ap (λ q. open_weight w (cond q c.state (state_in cs i))) (ne_eqb c.job i ne) in
    omega arith)

-- a worker of the table is a worker of the board
is_worker : (workers : ℕ) (crew : List SeatWorker) (w : ℕ) → w < workers → w < length (map (has_stopped_in crew) (range_with_len 0 workers))
is_worker workers crew w lt = let e = length-map-range_with_len (has_stopped_in crew) 0 workers in omega arith

module _ (jobs : List Job) (workers : ℕ) (cs : List ClaimedJob) (w next : ℕ) (least : Option ℕ) (works : w < workers) (free : open_count w cs ≡ 0) where
  abbrev v : View
  v = solo jobs workers cs w false

  not_busy : (i : ℕ) (s : JobState) → open_weight w s ≡ 1 → slice_get (map (state_in cs) (range_with_len 0 (length jobs))) i ≢ Some s
  not_busy i s p e =
      let h = got_map (state_in cs) 0 (length jobs) i s e in
      let q = pending_in w (0 + i) cs in
      let z : open_weight w s ≡ open_weight w (state_in cs (0 + i)) = ap (open_weight w) h in
      absurd (omega arith)

  may : MayClaim (board_of v next least) w
  may = record {
    works = get_map (has_stopped_in (seat_worker w false ∷ [])) 0 workers w works ∙ ap (λ q. Some q) (
        let z : 0 + w ≡ w = omega arith in
        ap (λ x. has_stopped_in (seat_worker w false ∷ []) x) z ∙ if_same w false false);
    free = λ i. (not_busy i (Held w) (bit-same w), not_busy i (Faulty w) (bit-same w));
  }

  holds_next : next < length jobs → board_of (solo jobs workers (claimed_job next (Held w) ∷ cs) w false) (next + 1) least
      ≡ record (board_of v next least) { next = next + 1; states = set (board_of v next least).states next (Held w) }
  holds_next lt = ap (λ l. record (board_of v next least) { next = next + 1; states = l })
      (map_set (state_in (claimed_job next (Held w) ∷ cs)) (state_in cs) 0 (length jobs) next (Held w) lt
      (let z : 0 + next ≡ next = omega arith in ap (λ x. cond (next == x) (Held w) (state_in cs x)) z ∙ if_same next (Held w) (state_in cs next))
      (λ x ne. if_other next x (Held w) (state_in cs x) (λ q. ne (omega arith))))

  stops_now : board_of (solo jobs workers cs w true) (next + 1) least
      ≡ record (board_of v next least) { next = next + 1; stopped = set (board_of v next least).stopped w true }
  stops_now = ap (λ l. record (board_of v next least) { next = next + 1; stopped = l })
      (map_set (has_stopped_in (seat_worker w true ∷ [])) (has_stopped_in (seat_worker w false ∷ [])) 0 workers w true works
      (let z : 0 + w ≡ w = omega arith in ap (λ x. cond (w == x) true false) z ∙ if_same w true false)
      (λ x ne. if_other w x true false (λ q. ne (omega arith)) ∙ sym (if_other w x false false (λ q. ne (omega arith)))))

  claim_if : (b : Bool) → ltb next (length jobs) ≡ b
      → board_of (cond b (solo jobs workers (claimed_job next (Held w) ∷ cs) w false) (solo jobs workers cs w true)) (next + 1) least
      ≡ cond b (record (board_of v next least) { next = next + 1; states = set (board_of v next least).states next (Held w) })
      (record (board_of v next least) { next = next + 1; stopped = set (board_of v next least).stopped w true })
  claim_if true e = holds_next (ltb-true next (length jobs) e)
  claim_if false e = stops_now

  pub claim_steps : IsStep (board_of v next least) (step_by w Claim) (board_of (view_after_claim v next) (next + 1) least)
  claim_steps = (is_worker workers (seat_worker w false ∷ []) w works, (may, claim_if (ltb next (length jobs)) refl))

module _ (jobs : List Job) (workers : ℕ) (cs : List ClaimedJob) (w i next : ℕ) (in_range : i < length jobs) (works : w < workers) where
  marked : (s t : JobState) (least least' : Option ℕ) → board_of (solo jobs workers (claimed_job i t ∷ cs) w false) next least'
      ≡ record (board_of (solo jobs workers (claimed_job i s ∷ cs) w false) next least) {
        least = least';
        states =
            set (board_of (solo jobs workers (claimed_job i s ∷ cs) w false) next least).states i t;
      }
  marked s t least less = ap (λ l. record (board_of (solo jobs workers (claimed_job i s ∷ cs) w false) next least) { least = less; states = l })
      (map_set (state_in (claimed_job i t ∷ cs)) (state_in (claimed_job i s ∷ cs)) 0 (length jobs) i t in_range
      (let z : 0 + i ≡ i = omega arith in ap (λ x. cond (i == x) t (state_in cs x)) z ∙ if_same i t (state_in cs i))
      (λ x ne. if_other i x t (state_in cs x) (λ q. ne (omega arith)) ∙ sym (if_other i x s (state_in cs x) (λ q. ne (omega arith)))))

  is_at : (s : JobState) → slice_get (map (state_in (claimed_job i s ∷ cs)) (range_with_len 0 (length jobs))) i ≡ Some s
  is_at s = get_map (state_in (claimed_job i s ∷ cs)) 0 (length jobs) i in_range ∙ ap (λ q. Some q) (
      let z : 0 + i ≡ i = omega arith in
      ap (λ x. cond (i == x) s (state_in cs x)) z ∙ if_same i s (state_in cs i))

  below_same : (found start : ℕ) → start ≤ no_place → is_least_below (least_of found) start ≡ ltb found start
  below_same found start le = dite (ℕ_discrete found no_place)
      (λ (e : found ≡ no_place). ap (λ q. is_least_below (cond q None (Some found)) start) (eq-eqb found no_place e) ∙ sym (le-ltb found start (omega arith)))
      (λ (ne : found ≢ no_place). ap (λ q. is_least_below (cond q None (Some found)) start) (ne_eqb found no_place ne))

  pub look_steps : (found : ℕ) → (job_at jobs i).start ≤ no_place
      → IsStep (board_of (solo jobs workers (claimed_job i (Held w) ∷ cs) w false) next (least_of found)) (step_by w Look)
      (board_of (view_after_look (solo jobs workers (claimed_job i (Held w) ∷ cs) w false) found) next (least_of found))
  look_steps found le =
      let job : Job = job_at jobs i in
      let same : state_after_load job found w ≡ state_after_look job (least_of found) w =
      ap (λ b. cond b (Skipped w) (state_by_fault job.fault w)) (sym (below_same found job.start le)) in (
        is_worker workers (seat_worker w false ∷ []) w works,
        (
          i,
          job,
          slice_get-get_or jobs i blank_job in_range,
          is_at (Held w),
          marked (Held w) (state_after_load job found w) (least_of found) (least_of found)
              ∙ ap (λ q. record (board_of (solo jobs workers (claimed_job i (Held w) ∷ cs) w false) next (least_of found)) {
                states =
                    set (board_of (solo jobs workers (claimed_job i (Held w) ∷ cs) w false) next (least_of found)).states i q;
              }) same,
        ),
      )

  least_min : (found place : ℕ) → place < no_place → least_of (min found place) ≡ Some (lesser_of (least_of found) place)
  least_min found place lt =
      let ne : min found place ≢ no_place = omega arith in
      ap (λ q. cond q None (Some (min found place))) (ne_eqb (min found place) no_place ne) ∙ ap (λ n. Some n) (go (ℕ_discrete found no_place))
    where
      go : Dec (found ≡ no_place) → min found place ≡ lesser_of (least_of found) place
      go (yes e) = let m : min found place ≡ place = omega arith in m ∙ sym (ap (λ q. lesser_of (cond q None (Some found)) place) (eq-eqb found no_place e))
      go (no ne) = sym (ap (λ q. lesser_of (cond q None (Some found)) place) (ne_eqb found no_place ne))

  pub lower_steps : (found place : ℕ) → (job_at jobs i).fault ≡ Some place → place < no_place
      → IsStep (board_of (solo jobs workers (claimed_job i (Faulty w) ∷ cs) w false) next (least_of found)) (step_by w Lower)
      (board_of (view_after_lower (solo jobs workers (claimed_job i (Faulty w) ∷ cs) w false)) next (least_of (min found place)))
  lower_steps found place fault lt = (
    is_worker workers (seat_worker w false ∷ []) w works,
    (
      i,
      job_at jobs i,
      place,
      slice_get-get_or jobs i blank_job in_range,
      fault,
      is_at (Faulty w),
      marked (Faulty w) (Lowered w) (least_of found) (least_of (min found place))
          ∙ ap (λ q. record (board_of (solo jobs workers (claimed_job i (Faulty w) ∷ cs) w false) next (least_of found)) {
            least = q;
            states =
                set (board_of (solo jobs workers (claimed_job i (Faulty w) ∷ cs) w false) next (least_of found)).states i (Lowered w);
          }) (least_min found place lt),
    ),
  )

pub claim_is : (v u : View) (w found : ℕ) → IsOne v w false → open_count w v.claimed ≡ 0 → first_of v.crew < v.workers → u ≡ view_after_claim v found
    → (least : Option ℕ)
    → IsStep (board_of v found least) (step_by (worker_of v) Claim) (board_of u (found + 1) least)
claim_is v u w found one free works e least =
    let is : v ≡ solo v.jobs v.workers v.claimed w false = λ i. record { jobs = v.jobs; workers = v.workers; claimed = v.claimed; crew = one i } in
    let lt : w < v.workers = subst (λ n. n < v.workers) (ap (λ x. first_of x.crew) is) works in
    subst (λ q. IsStep (board_of v found least) (step_by (worker_of v) Claim) (board_of q (found + 1) least)) (sym e)
    (subst (λ x. IsStep (board_of x found least) (step_by (worker_of x) Claim) (board_of (view_after_claim x found) (found + 1) least)) (sym is)
    (claim_steps v.jobs v.workers v.claimed w found least lt free))

pub look_is : (v u : View) (w i found start : ℕ) (cs : List ClaimedJob) → IsOne v w false → v.claimed ≡ claimed_job i (Held w) ∷ cs
    → start ≡ (job_at v.jobs i).start → start ≤ no_place → All (λ c. c.job < length v.jobs) v.claimed → worker_of v < v.workers
    → u ≡ view_after_look v found → (next : ℕ)
    → IsStep (board_of v next (least_of found)) (step_by (worker_of v) Look) (board_of u next (least_of found))
look_is v u w i found start cs one top at fits within works e next =
    let is : v ≡ solo v.jobs v.workers (claimed_job i (Held w) ∷ cs) w false =
    λ j. record { jobs = v.jobs; workers = v.workers; claimed = top j; crew = one j } in
    let lt : i < length v.jobs = All-head (λ (c : ClaimedJob). c.job < length v.jobs) (claimed_job i (Held w)) cs
    (subst (λ l. All (λ c. c.job < length v.jobs) l) top within) in
    subst (λ q. IsStep (board_of v next (least_of found)) (step_by (worker_of v) Look) (board_of q next (least_of found))) (sym e)
    (subst (λ x. IsStep (board_of x next (least_of found)) (step_by (worker_of x) Look) (board_of (view_after_look x found) next (least_of found))) (sym is)
    (look_steps v.jobs v.workers cs w i next lt (subst (λ n. n < v.workers) (ap (λ x. first_of x.crew) is) works) found (omega arith)))

pub lower_is : (v u : View) (w i place : ℕ) (cs : List ClaimedJob) → IsOne v w false → v.claimed ≡ claimed_job i (Faulty w) ∷ cs
    → (job_at v.jobs i).fault ≡ Some place → place < no_place → All (λ c. c.job < length v.jobs) v.claimed → worker_of v < v.workers
    → u ≡ view_after_lower v → (next found : ℕ)
    → IsStep (board_of v next (least_of found)) (step_by (worker_of v) Lower) (board_of u next (least_of (min found place)))
lower_is v u w i place cs one top fault low within works e next found =
    let is : v ≡ solo v.jobs v.workers (claimed_job i (Faulty w) ∷ cs) w false =
    λ j. record { jobs = v.jobs; workers = v.workers; claimed = top j; crew = one j } in
    let lt : i < length v.jobs = All-head (λ (c : ClaimedJob). c.job < length v.jobs) (claimed_job i (Faulty w)) cs
    (subst (λ l. All (λ c. c.job < length v.jobs) l) top within) in
    subst (λ q. IsStep (board_of v next (least_of found)) (step_by (worker_of v) Lower) (board_of q next (least_of (min found place)))) (sym e)
    (subst (λ x. IsStep (board_of x next (least_of found)) (step_by (worker_of x) Lower) (board_of (view_after_lower x) next (least_of (min found place))))
    (sym is)
    (lower_steps v.jobs v.workers cs w i next lt (subst (λ n. n < v.workers) (ap (λ x. first_of x.crew) is) works) found place fault low))
