-- Faulty jobs have faults, and what a look finds.
use Rattle.std.proofs.Common.{◌≡◌, ℕ, ◌+◌, ◌<◌, ◌≢◌, ltb, Bool, true, false, cond, List, length, set, get_or, sym, refl, ap, ◌∙◌, subst, ⊎_elim, arith, Option, Some, None, Result, Ok, Err, IfErr, OnOk, OnErr, length-set}
use Rattle.std.specs.List.{slice_get, count_by, sum_by}
use Rattle.std.proofs.lemmas.List.Sums.{sum_by-set}
use Rattle.std.proofs.lemmas.Option.{slice_get_within, get_or_from_slice_get}
use Rattle.claim_board.specs.declared.job.Job.{Job}
use Rattle.claim_board.specs.declared.job.JobState.{JobState}
use Rattle.claim_board.specs.declared.job.JobState.TheVariants.{Held, Faulty, Skipped, Lowered}
use Rattle.claim_board.specs.Board.{BoardState, HaveFaults, Acts, MayNot, IsRefused, IsSameSize, MakesLook, state_after_look, state_by_fault, is_least_below}
use Rattle.claim_board.specs.declared.job.Act.{Act}
use Rattle.claim_board.specs.declared.job.Act.TheVariants.{Claim, Look, Lower}
use Rattle.claim_board.specs.declared.job.Step.{Step}
use Rattle.claim_board.specs.declared.job.BoardFault.{BoardFault}
use Rattle.claim_board.specs.declared.job.BoardFault.TheVariants.{Order}
use Rattle.claim_board.proofs.Lists.{get_set}

pub have_set : (jobs : List Job) (states : List JobState) (i : ℕ) (s : JobState) → HaveFaults jobs states
    → ((w : ℕ) → s ≡ Faulty w → (job : Job) × (x : ℕ) × (slice_get jobs i ≡ Some job) × (job.fault ≡ Some x)) → HaveFaults jobs (set states i s)
have_set jobs states i s h here j w e = ⊎_elim
    (λ (t : (j ≡ i) × (s ≡ Faulty w)). let r = here w t.1 in (r.0, r.1, ap (λ k. slice_get jobs k) t.0 ∙ r.2, r.3))
    (λ (t : (j ≢ i) × (slice_get states j ≡ Some (Faulty w))). h j w t.1)
    (get_set states i j s (Faulty w) e)

faulty_by : (f : Option ℕ) (w u : ℕ) → state_by_fault f w ≡ Faulty u → (x : ℕ) × (f ≡ Some x)
faulty_by None w u e = absurd (cc)
faulty_by (Some x) w u e = (x, refl)

faulty_if : (b : Bool) (f : Option ℕ) (w u : ℕ) → cond b (Skipped w) (state_by_fault f w) ≡ Faulty u → (x : ℕ) × (f ≡ Some x)
faulty_if true f w u e = absurd (cc)
faulty_if false f w u e = faulty_by f w u e

pub look_faulty : (job : Job) (least : Option ℕ) (w u : ℕ) → state_after_look job least w ≡ Faulty u → (x : ℕ) × (job.fault ≡ Some x)
look_faulty job least w u e = faulty_if (is_least_below least job.start) job.fault w u e

pub one_stopped : (l : List Bool) (w : ℕ) → slice_get l w ≡ Some false → count_by (λ x. x) (set l w true) ≡ count_by (λ x. x) l + 1
one_stopped l w e =
    let s = sum_by-set (λ (x : Bool). cond x 1 0) l w true false (slice_get_within l w false e) in
    let z : cond (get_or l w false) 1 0 ≡ cond false 1 0 = ap (λ (b : Bool). cond b 1 0) (get_or_from_slice_get l w false false e) in
    let f : Bool → ℕ = λ x. cond x 1 0 in
    let t : sum_by f (set l w true) + 0 ≡ sum_by f l + 1 = ap (λ n. sum_by f (set l w true) + n) (sym z) ∙ s in
    omega (arith, t)

pub look_made : (s t : BoardState) (i w : ℕ) (job : Job) (r : JobState) → slice_get s.jobs i ≡ Some job → slice_get s.states i ≡ Some (Held w)
    → r ≡ state_after_look job s.least w
    → t ≡ record s { states = set s.states i r } → MakesLook s w t
look_made s t i w job r a b is e = (i, job, a, b, e ∙ ap (λ q. record s { states = set s.states i q }) is)

pub step_refused : {X : Type 0} (s : BoardState) (x : Step) (a : Act) (r : Result X BoardFault) → x.act ≡ a → x.worker < length s.stopped
    → IfErr r (λ e. (e ≡ Order) × MayNot a s x.worker) → IfErr r (IsRefused s x)
step_refused s x a (Ok u) is lt h = h
step_refused s x a (Err e) is lt h = subst (λ q. IsRefused s x q) (sym h.0) (lt, λ t st. h.1 t (subst (λ q. Acts q s x.worker t) is st.1))

pub look_made_at : (s z t : BoardState) → s ≡ z → (i w : ℕ) (job : Job) (r : JobState) → slice_get s.jobs i ≡ Some job
    → slice_get s.states i ≡ Some (Held w) → r ≡ state_after_look job s.least w
    → t ≡ record s { states = set s.states i r } → MakesLook z w t
look_made_at s z t same i w job r a b is e = subst (λ x. MakesLook x w t) same (look_made s t i w job r a b is e)

size_if : (s : BoardState) (w : ℕ) (b : Bool)
    → IsSameSize s (cond b (record s { next = s.next + 1; states = set s.states s.next (Held w) })
    (record s { next = s.next + 1; stopped = set s.stopped w true }))
size_if s w true = record { jobs = length-set s.states s.next (Held w); workers = refl }
size_if s w false = record { jobs = refl; workers = length-set s.stopped w true }

size_by : (s t : BoardState) (a : Act) (w : ℕ) → Acts a s w t → IsSameSize s t
size_by s t Claim w a = subst (λ (u : BoardState). IsSameSize s u) (sym a.1) (size_if s w (ltb s.next (length s.jobs)))
size_by s t Look w a = subst (λ (u : BoardState). IsSameSize s u) (sym a.4)
    (record { jobs = length-set s.states a.0 (state_after_look a.1 s.least w); workers = refl })
size_by s t Lower w a = subst (λ (u : BoardState). IsSameSize s u) (sym a.6) (record { jobs = length-set s.states a.0 (Lowered w); workers = refl })

-- a step, or a refusal, leaves as many jobs and workers
pub same_size : {X : Type 0} (s t : BoardState) (a : Act) (w : ℕ) (r : Result X BoardFault) → OnOk r (Acts a s w t) → OnErr r (t ≡ s) → IsSameSize s t
same_size s t a w (Ok u) made kept = size_by s t a w made
same_size s t a w (Err e) made kept = subst (λ (u : BoardState). IsSameSize s u) (sym kept) (record { jobs = refl; workers = refl })
