-- The law of the board, by what every list of steps from the opening keeps.
use Rattle.std.proofs.Common.{◌≡◌, ◌≢◌, ℕ, zero, suc, ◌+◌, ◌<◌, ◌≤◌, ◌⊎◌, ltb, min, Bool, true, false, cond, List, [], ◌∷◌, length, replicate, set, get_or, sym, refl, ap, ◌∙◌, subst, inl, inr, ⊎_elim, arith, Option, Some, None, IfSome, length-set}
use native.Mathlib.Decide.{dec_le}
use Rattle.std.specs.List.{All, slice_get}
use Rattle.std.proofs.lemmas.Bool.{ltb-true, ltb-false}
use Rattle.std.proofs.lemmas.List.{length-replicate}
use Rattle.std.proofs.lemmas.Option.{slice_get-get_or, slice_get_within, get_or_from_slice_get, none-some, same_Some}
use Rattle.std.proofs.lemmas.List.Elements.{All-head, All-tail, All-get_or, All-from_get_or}
use Rattle.claim_board.specs.declared.job.Job.{Job}
use Rattle.claim_board.specs.declared.job.JobState.{JobState}
use Rattle.claim_board.specs.declared.job.JobState.TheVariants.{Untouched, Held, Faulty, Done, Skipped, Lowered}
use Rattle.claim_board.specs.declared.job.Act.{Act}
use Rattle.claim_board.specs.declared.job.Act.TheVariants.{Claim, Look, Lower}
use Rattle.claim_board.specs.declared.job.Step.{Step}
use Rattle.claim_board.specs.Board.{BoardState, AreJobs, MayClaim, Acts, opening_of, is_least_below, state_by_fault, state_after_look, lesser_of}
use Rattle.claim_board.specs.Orders.{LeadsTo, EndsOnce, HaveAllStopped, AreFaultless, IsLeastFault, AreDone, IsOrderly, AllOrders}
use Rattle.claim_board.specs.Running.{bit, total, blank_job}
use Rattle.claim_board.proofs.Lists.{get_set, get_set_else, get_replicate, got_replicate}
use Rattle.claim_board.proofs.Totals.{total-put, total-replicate, total_few, bit_le}

-- how many steps led a job to its state
abbrev pub progress : JobState → ℕ
progress Untouched = 0
progress (Held w) = 1
progress (Faulty w) = 2
progress (Done w) = 2
progress (Skipped w) = 2
progress (Lowered w) = 3

progress_few : (s : JobState) → progress s ≤ 3
progress_few Untouched = omega arith
progress_few (Held w) = omega arith
progress_few (Faulty w) = omega arith
progress_few (Done w) = omega arith
progress_few (Skipped w) = omega arith
progress_few (Lowered w) = omega arith

-- what the state of the job i says of the worker that it names, of the job, and of the least place
abbrev pub IsRight : List Job → List Bool → Option ℕ → ℕ → JobState → Type 0
IsRight jobs stopped least i Untouched = Unit {0}
IsRight jobs stopped least i (Held w) = slice_get stopped w ≡ Some false
IsRight jobs stopped least i (Faulty w) = slice_get stopped w ≡ Some false
IsRight jobs stopped least i (Done w) = (w < length stopped) × (job : Job) × (slice_get jobs i ≡ Some job) × (job.fault ≡ None)
IsRight jobs stopped least i (Skipped w) =
    (w < length stopped) × (job : Job) × (slice_get jobs i ≡ Some job) × (y : ℕ) × (least ≡ Some y) × (y < job.start)
IsRight jobs stopped least i (Lowered w) =
    (w < length stopped) × (job : Job) × (slice_get jobs i ≡ Some job) × (x : ℕ) × (job.fault ≡ Some x) × (y : ℕ) × (least ≡ Some y) × (y ≤ x)

-- some job has the fault x
abbrev pub HasFault : List Job → ℕ → Type 0
HasFault jobs x = (i : ℕ) × (job : Job) × (slice_get jobs i ≡ Some job) × (job.fault ≡ Some x)

-- what holds after this many steps from the opening
pub record IsReached (jobs : List Job) (workers steps : ℕ) (t : BoardState) : Type 0 where
  pub same : t.jobs ≡ jobs
  pub crew : length t.stopped ≡ workers
  pub states : length t.states ≡ length t.jobs
  pub counted : steps ≡ total progress t.states + total bit t.stopped
  pub next : t.next ≤ length t.jobs + total bit t.stopped
  pub late : 0 < total bit t.stopped → length t.jobs ≤ t.next
  pub fresh : (i : ℕ) → t.next ≤ i → i < length t.jobs → slice_get t.states i ≡ Some Untouched
  pub touched : (i : ℕ) → i < t.next → slice_get t.states i ≢ Some Untouched
  pub right : (i : ℕ) (s : JobState) → slice_get t.states i ≡ Some s → IsRight t.jobs t.stopped t.least i s
  pub least : (y : ℕ) → t.least ≡ Some y → HasFault t.jobs y

pub sound_get : (jobs : List Job) (i : ℕ) (job : Job) → AreJobs jobs → slice_get jobs i ≡ Some job → IfSome job.fault (λ x. job.start ≤ x)
sound_get [] i job a e = absurd (cc)
sound_get (j ∷ js) zero job a e = subst (λ (q : Job). IfSome q.fault (λ x. q.start ≤ x)) (same_Some j job e) a.0
sound_get (j ∷ js) (suc i) job a e = sound_get js i job a.2 e

opening_reached : (jobs : List Job) (workers : ℕ) → IsReached jobs workers 0 (opening_of jobs workers)
opening_reached jobs workers = record {
  same = refl;
  crew = length-replicate workers false;
  states = length-replicate (length jobs) Untouched;
  counted = let a = total-replicate progress (length jobs) Untouched refl in let b = total-replicate bit workers false refl in omega arith;
  next = omega arith;
  late = λ p. let b = total-replicate bit workers false refl in absurd (omega arith);
  fresh = λ i le lt. get_replicate (length jobs) Untouched i lt;
  touched = λ i lt. absurd (omega arith);
  right = λ i s e. subst (λ (p : JobState). IsRight jobs (replicate workers false) None i p) (got_replicate (length jobs) Untouched i s e) tt;
  least = λ y e. absurd (none-some y e);
}

module _ (jobs : List Job) (workers steps : ℕ) (s : BoardState) (old : IsReached jobs workers steps s) where
  -- a job goes one state further, and the least place may fall
  put : (next : ℕ) (least : Option ℕ) (i : ℕ) (q r : JobState) → slice_get s.states i ≡ Some q → progress r ≡ progress q + 1 → (r ≡ Untouched → ⊥)
      → s.next ≤ next → next ≤ length s.jobs + total bit s.stopped
      → ((j : ℕ) → next ≤ j → j < length s.jobs → j ≢ i) → ((j : ℕ) → j < next → j ≢ i → j < s.next)
      → ((j : ℕ) (p : JobState) → IsRight s.jobs s.stopped s.least j p → IsRight s.jobs s.stopped least j p)
      → IsRight s.jobs s.stopped least i r → ((y : ℕ) → least ≡ Some y → HasFault s.jobs y)
      → IsReached jobs workers (steps + 1) (record s { next = next; least = least; states = set s.states i r })
  put next least i q r at more later up bound apart lower weaker right from = record {
    same = old.same;
    crew = old.crew;
    states = length-set s.states i r ∙ old.states;
    counted = let e = total-put progress s.states i q r at in let o = old.counted in omega arith;
    next = bound;
    late = λ p. let l = old.late p in omega arith;
    fresh = λ j le lt. get_set_else s.states i j r (apart j le lt) ∙ old.fresh j (omega arith) lt;
    touched = λ j lt e. ⊎_elim
        (λ (h : (j ≡ i) × (r ≡ Untouched)). later h.1)
        (λ (h : (j ≢ i) × (slice_get s.states j ≡ Some Untouched)). old.touched j (lower j lt h.0) h.1)
        (get_set s.states i j r Untouched e);
    right = λ j p e. ⊎_elim
        (λ (h : (j ≡ i) × (r ≡ p)).
        subst (λ k. IsRight s.jobs s.stopped least k p) (sym h.0) (subst (λ (x : JobState). IsRight s.jobs s.stopped least i x) h.1 right))
        (λ (h : (j ≢ i) × (slice_get s.states j ≡ Some p)). weaker j p (old.right j p h.1))
        (get_set s.states i j r p e);
    least = from;
  }

  -- a job that a worker has claimed is not among the jobs that are next
  apart_from : (i : ℕ) (q : JobState) → slice_get s.states i ≡ Some q → (q ≡ Untouched → ⊥) → (j : ℕ) → s.next ≤ j → j < length s.jobs → j ≢ i
  apart_from i q at not j le lt e =
      let there : slice_get s.states i ≡ Some Untouched = subst (λ k. slice_get s.states k ≡ Some Untouched) e (old.fresh j le lt) in
      not (cc)

  hold_reached : (w : ℕ) → slice_get s.stopped w ≡ Some false → s.next < length s.jobs
      → IsReached jobs workers (steps + 1) (record s { next = s.next + 1; states = set s.states s.next (Held w) })
  hold_reached w works lt = put (s.next + 1) s.least s.next Untouched (Held w) (old.fresh s.next (omega arith) lt) refl (λ e. cc)
      (omega arith) (omega arith) (λ j le more e. omega arith) (λ j less ne. omega arith) (λ j p h. h) works old.least

  right_stop : (w j : ℕ) (p : JobState) → (p ≡ Held w → ⊥) → (p ≡ Faulty w → ⊥) → IsRight s.jobs s.stopped s.least j p
      → IsRight s.jobs (set s.stopped w true) s.least j p
  right_stop w j Untouched n m h = tt
  right_stop w j (Held u) n m h = get_set_else s.stopped w u true (λ (e : u ≡ w). n (ap (λ x. Held x) e)) ∙ h
  right_stop w j (Faulty u) n m h = get_set_else s.stopped w u true (λ (e : u ≡ w). m (ap (λ x. Faulty x) e)) ∙ h
  right_stop w j (Done u) n m h = (let l = length-set s.stopped w true in let lt = h.0 in omega arith, h.1, h.2, h.3)
  right_stop w j (Skipped u) n m h = (let l = length-set s.stopped w true in let lt = h.0 in omega arith, h.1, h.2, h.3, h.4, h.5)
  right_stop w j (Lowered u) n m h = (let l = length-set s.stopped w true in let lt = h.0 in omega arith, h.1, h.2, h.3, h.4, h.5, h.6, h.7)

  stop_reached : (w : ℕ) → MayClaim s w → length s.jobs ≤ s.next
      → IsReached jobs workers (steps + 1) (record s { next = s.next + 1; stopped = set s.stopped w true })
  stop_reached w may le =
      let more : total bit (set s.stopped w true) + 0 ≡ total bit s.stopped + 1 = total-put bit s.stopped w false true may.works in
      record {
        same = old.same;
        crew = length-set s.stopped w true ∙ old.crew;
        states = old.states;
        counted = let o = old.counted in omega arith;
        next = let n = old.next in omega arith;
        late = λ p. omega arith;
        fresh = λ j high lt. old.fresh j (omega arith) lt;
        touched = λ j lt e. let i = slice_get_within s.states j Untouched e in let l = old.states in old.touched j (omega arith) e;
        right = λ j p e. right_stop w j p (λ is. (may.free j).0 (e ∙ ap (λ x. Some x) is)) (λ is. (may.free j).1 (e ∙ ap (λ x. Some x) is)) (old.right j p e);
        least = old.least;
      }

  claim_if : (w : ℕ) → MayClaim s w → (b : Bool) → ltb s.next (length s.jobs) ≡ b
      → IsReached jobs workers (steps + 1)
      (cond b (record s { next = s.next + 1; states = set s.states s.next (Held w) }) (record s { next = s.next + 1; stopped = set s.stopped w true }))
  claim_if w may true is = hold_reached w may.works (ltb-true s.next (length s.jobs) is)
  claim_if w may false is = stop_reached w may (ltb-false s.next (length s.jobs) is)

  -- the state that a look leaves a job in
  abbrev IsLooked : ℕ → ℕ → JobState → Type 0
  IsLooked w i r = (progress r ≡ 2) × (r ≡ Untouched → ⊥) × IsRight s.jobs s.stopped s.least i r

  least_below : (least : Option ℕ) (start : ℕ) → is_least_below least start ≡ true → (y : ℕ) × (least ≡ Some y) × (y < start)
  least_below None start e = absurd (cc)
  least_below (Some y) start e = (y, refl, ltb-true y start e)

  look_if : (w i : ℕ) (job : Job) → slice_get s.jobs i ≡ Some job → slice_get s.stopped w ≡ Some false
      → (b : Bool) → is_least_below s.least job.start ≡ b → (f : Option ℕ) → job.fault ≡ f → IsLooked w i (cond b (Skipped w) (state_by_fault f w))
  look_if w i job at works true is f e =
      let l = least_below s.least job.start is in
      (refl, (λ q. cc), (slice_get_within s.stopped w false works, job, at, l.0, l.1, l.2))
  look_if w i job at works false is None e = (refl, (λ q. cc), (slice_get_within s.stopped w false works, job, at, e))
  look_if w i job at works false is (Some x) e = (refl, (λ q. cc), works)

  look_reached : (w i : ℕ) (job : Job) → slice_get s.jobs i ≡ Some job → slice_get s.states i ≡ Some (Held w)
      → IsReached jobs workers (steps + 1) (record s { states = set s.states i (state_after_look job s.least w) })
  look_reached w i job at held =
      let l : IsLooked w i (state_after_look job s.least w) =
      look_if w i job at (old.right i (Held w) held) (is_least_below s.least job.start) refl job.fault refl in
      put s.next s.least i (Held w) (state_after_look job s.least w) held l.0 l.1
      (omega arith) old.next (apart_from i (Held w) held (λ e. cc)) (λ j less ne. less) (λ j p h. h) l.2 old.least

  lesser_le : (least : Option ℕ) (x y : ℕ) → least ≡ Some y → lesser_of least x ≤ y
  lesser_le None x y e = absurd (none-some y e)
  lesser_le (Some z) x y e = let q = same_Some z y e in omega arith

  lesser_least : (least : Option ℕ) (x : ℕ) → lesser_of least x ≤ x
  lesser_least None x = omega arith
  lesser_least (Some z) x = omega arith

  right_lower : (x j : ℕ) (p : JobState) → IsRight s.jobs s.stopped s.least j p → IsRight s.jobs s.stopped (Some (lesser_of s.least x)) j p
  right_lower x j Untouched h = tt
  right_lower x j (Held u) h = h
  right_lower x j (Faulty u) h = h
  right_lower x j (Done u) h = h
  right_lower x j (Skipped u) h =
      let l = lesser_le s.least x h.3 h.4 in let lt = h.5 in (h.0, h.1, h.2, lesser_of s.least x, refl, omega arith)
  right_lower x j (Lowered u) h =
      let l = lesser_le s.least x h.5 h.6 in let le = h.7 in (h.0, h.1, h.2, h.3, h.4, lesser_of s.least x, refl, omega arith)

  one_of : (x z y : ℕ) → HasFault s.jobs x → HasFault s.jobs z → min z x ≡ y → Dec (z ≤ x) → HasFault s.jobs y
  one_of x z y a b e (yes le) = subst (λ n. HasFault s.jobs n) (let m : z ≡ y = omega arith in m) b
  one_of x z y a b e (no n) = subst (λ n. HasFault s.jobs n) (let m : x ≡ y = omega arith in m) a

  lesser_from : (x : ℕ) → HasFault s.jobs x → (least : Option ℕ) → ((y : ℕ) → least ≡ Some y → HasFault s.jobs y)
      → (y : ℕ) → Some (lesser_of least x) ≡ Some y → HasFault s.jobs y
  lesser_from x a None b y e = subst (λ n. HasFault s.jobs n) (same_Some x y e) a
  lesser_from x a (Some z) b y e = one_of x z y a (b z refl) (same_Some (min z x) y e) (dec_le z x)

  lower_reached : (w i : ℕ) (job : Job) (x : ℕ) → slice_get s.jobs i ≡ Some job → job.fault ≡ Some x → slice_get s.states i ≡ Some (Faulty w)
      → IsReached jobs workers (steps + 1) (record s { least = Some (lesser_of s.least x); states = set s.states i (Lowered w) })
  lower_reached w i job x at fault is_at =
      let works : slice_get s.stopped w ≡ Some false = old.right i (Faulty w) is_at in
      put s.next (Some (lesser_of s.least x)) i (Faulty w) (Lowered w) is_at refl (λ e. cc)
      (omega arith) old.next (apart_from i (Faulty w) is_at (λ e. cc)) (λ j less ne. less) (right_lower x)
      (slice_get_within s.stopped w false works, job, at, x, fault, lesser_of s.least x, refl, lesser_least s.least x)
      (lesser_from x (i, job, at, fault) s.least old.least)

  act_reached : (act : Act) (w : ℕ) (t : BoardState) → Acts act s w t → IsReached jobs workers (steps + 1) t
  act_reached Claim w t a =
      subst (λ (u : BoardState). IsReached jobs workers (steps + 1) u) (sym a.1) (claim_if w a.0 (ltb s.next (length s.jobs)) refl)
  act_reached Look w t a = subst (λ (u : BoardState). IsReached jobs workers (steps + 1) u) (sym a.4) (look_reached w a.0 a.1 a.2 a.3)
  act_reached Lower w t a = subst (λ (u : BoardState). IsReached jobs workers (steps + 1) u) (sym a.6) (lower_reached w a.0 a.1 a.2 a.3 a.4 a.5)

runs_reached : (jobs : List Job) (workers : ℕ) (list : List Step) (steps : ℕ) (s t : BoardState) → IsReached jobs workers steps s → LeadsTo s list t
    → IsReached jobs workers (steps + length list) t
runs_reached jobs workers [] steps s t r e =
    let n : steps ≡ steps + 0 = omega arith in
    subst (λ k. IsReached jobs workers k t) n (subst (λ (u : BoardState). IsReached jobs workers steps u) (sym e) r)
runs_reached jobs workers (x ∷ xs) steps s t r e =
    let n : steps + 1 + length xs ≡ steps + suc (length xs) = omega arith in
    subst (λ k. IsReached jobs workers k t) n
    (runs_reached jobs workers xs (steps + 1) e.0 t (act_reached jobs workers steps s r x.act x.worker e.0 e.1.1) e.2)

module _ (jobs : List Job) (workers steps : ℕ) (t : BoardState) (r : IsReached jobs workers steps t) (low : 1 ≤ workers) (all : HaveAllStopped t) where
  all_bits : (l : List Bool) → All (λ b. b ≡ true) l → total bit l ≡ length l
  all_bits [] a = refl
  all_bits (b ∷ bs) a =
      let h : bit b ≡ 1 = ap bit (All-head (λ (b : Bool). b ≡ true) b bs a) in
      let e = all_bits bs (All-tail (λ (b : Bool). b ≡ true) b bs a) in
      omega arith

  works_not : (w : ℕ) → slice_get t.stopped w ≡ Some false → ⊥
  works_not w e =
      let is : get_or t.stopped w false ≡ true = All-get_or (λ (b : Bool). b ≡ true) t.stopped w false (slice_get_within t.stopped w false e) all in
      let not : get_or t.stopped w false ≡ false = get_or_from_slice_get t.stopped w false false e in
      cc

  -- the state of the job i at the end
  pub record IsThere (i : ℕ) : Type 0 where
    pub state : JobState
    pub is_at : slice_get t.states i ≡ Some state
    pub right : IsRight t.jobs t.stopped t.least i state
    pub touched : state ≢ Untouched

  state_at : (i : ℕ) → i < length t.jobs → IsThere i
  state_at i lt =
      let s : JobState = get_or t.states i Untouched in
      let e : slice_get t.states i ≡ Some s = let l = r.states in slice_get-get_or t.states i Untouched (omega arith) in
      let n : length t.jobs ≤ t.next = r.late (let b = all_bits t.stopped all in let c = r.crew in omega arith) in
      record { state = s; is_at = e; right = r.right i s e; touched = λ q. r.touched i (omega arith) (e ∙ ap (λ x. Some x) q) }

  ends_by : (i : ℕ) (s : JobState) → slice_get t.states i ≡ Some s → IsRight t.jobs t.stopped t.least i s → s ≢ Untouched → EndsOnce workers t i
  ends_by i Untouched e h n = absurd (n refl)
  ends_by i (Held w) e h n = absurd (works_not w h)
  ends_by i (Faulty w) e h n = absurd (works_not w h)
  ends_by i (Done w) e h n =
      let c = r.crew in let lt = h.0 in
      record { state = Done w; is_at = e; worker = w; is_worker = omega arith; by_worker = refl; by_no_other = λ u q. sym q }
  ends_by i (Skipped w) e h n =
      let c = r.crew in let lt = h.0 in
      record { state = Skipped w; is_at = e; worker = w; is_worker = omega arith; by_worker = refl; by_no_other = λ u q. sym q }
  ends_by i (Lowered w) e h n =
      let c = r.crew in let lt = h.0 in
      record { state = Lowered w; is_at = e; worker = w; is_worker = omega arith; by_worker = refl; by_no_other = λ u q. sym q }

  once : (i : ℕ) → i < length t.jobs → EndsOnce workers t i
  once i lt = let s = state_at i lt in ends_by i s.state s.is_at s.right s.touched

  -- a job is Done, or there is a least place
  done_or : (i : ℕ) (s : JobState) → slice_get t.states i ≡ Some s → IsRight t.jobs t.stopped t.least i s → s ≢ Untouched
      → ((w : ℕ) × (slice_get t.states i ≡ Some (Done w)) × (job : Job) × (slice_get t.jobs i ≡ Some job) × (job.fault ≡ None)) ⊎ ((y : ℕ) × (t.least ≡ Some y))
  done_or i Untouched e h n = absurd (n refl)
  done_or i (Held w) e h n = absurd (works_not w h)
  done_or i (Faulty w) e h n = absurd (works_not w h)
  done_or i (Done w) e h n = inl (w, e, h.1, h.2, h.3)
  done_or i (Skipped w) e h n = inr (h.3, h.4)
  done_or i (Lowered w) e h n = inr (h.5, h.6)

  no_least : AreFaultless t.jobs → (y : ℕ) → t.least ≡ Some y → ⊥
  no_least none y e =
      let f = r.least y e in
      let is : get_or t.jobs f.0 blank_job ≡ f.1 = get_or_from_slice_get t.jobs f.0 f.1 blank_job f.2 in
      let not : (get_or t.jobs f.0 blank_job).fault ≡ None =
      All-get_or (λ (job : Job). job.fault ≡ None) t.jobs f.0 blank_job (slice_get_within t.jobs f.0 f.1 f.2) none in
      none-some y (sym not ∙ (ap (λ (job : Job). job.fault) is ∙ f.3))

  least_none : AreFaultless t.jobs → (l : Option ℕ) → t.least ≡ l → t.least ≡ None
  least_none none None e = e
  least_none none (Some y) e = absurd (no_least none y e)

  done_all : AreFaultless t.jobs → AreDone t.jobs t
  done_all none = record {
    done = λ i lt. let s = state_at i lt in ⊎_elim
        (λ (d : (w : ℕ) × (slice_get t.states i ≡ Some (Done w)) × (job : Job) × (slice_get t.jobs i ≡ Some job) × (job.fault ≡ None)). (d.0, d.1))
        (λ (l : (y : ℕ) × (t.least ≡ Some y)). absurd (no_least none l.0 l.1))
        (done_or i s.state s.is_at s.right s.touched);
    least = least_none none t.least refl;
  }

  faultless_if : t.least ≡ None → AreFaultless t.jobs
  faultless_if e = All-from_get_or (λ (job : Job). job.fault ≡ None) t.jobs blank_job (λ i lt. let s = state_at i lt in ⊎_elim
      (λ (d : (w : ℕ) × (slice_get t.states i ≡ Some (Done w)) × (job : Job) × (slice_get t.jobs i ≡ Some job) × (job.fault ≡ None)).
      ap (λ (job : Job). job.fault) (get_or_from_slice_get t.jobs i d.2 blank_job d.3) ∙ d.4)
      (λ (l : (y : ℕ) × (t.least ≡ Some y)). absurd (none-some l.0 (sym e ∙ l.1)))
      (done_or i s.state s.is_at s.right s.touched))

  -- the least place is no higher than the fault of a job
  least_le : (x y i : ℕ) (job : Job) (s : JobState) → AreJobs t.jobs → t.least ≡ Some x → slice_get t.jobs i ≡ Some job → job.fault ≡ Some y
      → IsRight t.jobs t.stopped t.least i s → s ≢ Untouched → x ≤ y
  least_le x y i job Untouched a e at f h n = absurd (n refl)
  least_le x y i job (Held w) a e at f h n = absurd (works_not w h)
  least_le x y i job (Faulty w) a e at f h n = absurd (works_not w h)
  least_le x y i job (Done w) a e at f h n =
      let is = same_Some h.1 job (sym h.2 ∙ at) in absurd (none-some y (sym h.3 ∙ (ap (λ (q : Job). q.fault) is ∙ f)))
  least_le x y i job (Skipped w) a e at f h n =
      let is = ap (λ (q : Job). q.start) (same_Some h.1 job (sym h.2 ∙ at)) in
      let same = same_Some h.3 x (sym h.4 ∙ e) in
      let sound : job.start ≤ y = subst (λ q. IfSome q (λ z. job.start ≤ z)) f (sound_get t.jobs i job a at) in
      let lt = h.5 in
      omega arith
  least_le x y i job (Lowered w) a e at f h n =
      let is = ap (λ (q : Job). q.fault) (same_Some h.1 job (sym h.2 ∙ at)) in
      let same = same_Some h.5 x (sym h.6 ∙ e) in
      let fault = same_Some h.3 y (sym h.4 ∙ (is ∙ f)) in
      let le = h.7 in
      omega arith

  least_is : AreJobs t.jobs → (AreFaultless t.jobs → ⊥) → (l : Option ℕ) → t.least ≡ l → (x : ℕ) × (t.least ≡ Some x) × IsLeastFault t.jobs x
  least_is a n None e = absurd (n (faultless_if e))
  least_is a n (Some x) e = (
    x,
    e,
    record {
      found = r.least x e;
      least = λ i job y at f.
          let s = state_at i (slice_get_within t.jobs i job at) in
          least_le x y i job s.state a e at f s.right s.touched;
    },
  )

pub all_orders : AllOrders
all_orders jobs workers list t sound low runs =
    let r : IsReached jobs workers (length list) t =
    let n : 0 + length list ≡ length list = omega arith in
    subst (λ k. IsReached jobs workers k t) n (runs_reached jobs workers list 0 (opening_of jobs workers) t (opening_reached jobs workers) runs) in
    let a : AreJobs t.jobs = subst AreJobs (sym r.same) sound in
    let few = total_few progress 3 progress_few t.states in
    let bits = total_few bit 1 bit_le t.stopped in
    let crew = r.crew in
    let states = r.states in
    subst (λ js. IsOrderly js workers (length list) t) r.same (record {
      few = let c = r.counted in omega arith;
      next_within = let n = r.next in omega arith;
      once = λ all. once jobs workers (length list) t r low all;
      faultless = λ all. done_all jobs workers (length list) t r low all;
      faulty = λ all n. least_is jobs workers (length list) t r low all a n t.least refl;
    })
