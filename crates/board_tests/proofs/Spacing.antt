-- The jobs of the tests are jobs that a work can have.
use Rattle.std.proofs.Common.{◌≡◌, ℕ, zero, suc, ◌+◌, ◌<◌, ◌≤◌, leb, ltb, Bool, true, false, cond, List, [], ◌∷◌, ◌++◌, length, sym, refl, ap, ◌∙◌, subst, ⊎_elim, arith, Option, Some, None, IfSome, length-append}
use Rattle.std.specs.List.{All, slice_get}
use Rattle.std.proofs.lemmas.List.Elements.{All-nil, All-cons}
use Rattle.claim_board.specs.declared.job.Job.{Job}
use Rattle.claim_board.specs.Board.{AreJobs, EndsBefore}
use Rattle.claim_board.specs.Running.{no_place, job_at, AreWorkJobs}
use Rattle.board_tests.specs.SpacedJobs.{spaced_start, AreSpacedFrom, spaced_job, spaced_from, spaced_jobs}
use Rattle.claim_board.proofs.Lists.{get_snoc}

above_start : (job : Job) (f : Option ℕ) (start : ℕ) → job.start ≡ start → job.fault ≡ f → IfSome f (λ x. x ≡ start + 5) → IfSome job.fault (λ x. job.start ≤ x)
above_start job None start a e h = subst (λ g. IfSome g (λ x. job.start ≤ x)) (sym e) tt
above_start job (Some x) start a e h = subst (λ g. IfSome g (λ x. job.start ≤ x)) (sym e) (omega arith)

below_limit : (job : Job) (f : Option ℕ) (start limit : ℕ) → job.fault ≡ f → IfSome f (λ x. x ≡ start + 5) → start + 5 < limit
    → IfSome job.fault (λ x. x < limit)
below_limit job None start limit e h lt = subst (λ g. IfSome g (λ x. x < limit)) (sym e) tt
below_limit job (Some x) start limit e h lt = subst (λ g. IfSome g (λ x. x < limit)) (sym e) (omega arith)

rest_spaced : (k : ℕ) (a : Job) (rest : List Job) → AreSpacedFrom k (a ∷ rest) → AreSpacedFrom (suc k) rest
rest_spaced k a rest s i job e =
    let h = s (suc i) job e in
    let same : k + suc i ≡ suc k + i = omega arith in
    subst (λ n. (job.start ≡ spaced_start n) × IfSome job.fault (λ x. x ≡ spaced_start n + 5)) same h

ends_before : (k : ℕ) (a : Job) (rest : List Job) → AreSpacedFrom k (a ∷ rest) → EndsBefore a rest
ends_before k a [] s = tt
ends_before k a (b ∷ rest) s =
    let h = s zero a refl in let g = s (suc zero) b refl in
    (let p = h.0 in let q = g.0 in omega arith, below_limit a a.fault (spaced_start (k + 0)) b.start refl h.1 (let q = g.0 in omega arith))

pub spaced_are_jobs : (k : ℕ) (jobs : List Job) → AreSpacedFrom k jobs → AreJobs jobs
spaced_are_jobs k [] s = tt
spaced_are_jobs k (a ∷ rest) s =
    let h = s zero a refl in
    (above_start a a.fault (spaced_start (k + 0)) h.0 refl h.1, ends_before k a rest s, spaced_are_jobs (suc k) rest (rest_spaced k a rest s))

pub spaced_snoc : (jobs : List Job) (job : Job) → AreSpacedFrom 0 jobs → job.start ≡ spaced_start (length jobs)
    → IfSome job.fault (λ x. x ≡ spaced_start (length jobs) + 5)
    → AreSpacedFrom 0 (jobs ++ job ∷ [])
spaced_snoc jobs job s a f i other e = ⊎_elim
    (λ (o : slice_get jobs i ≡ Some other). s i other o)
    (λ (o : (i ≡ length jobs) × (job ≡ other)).
    let n : length jobs ≡ 0 + i = let p = o.0 in omega arith in
    subst (λ q. (q.start ≡ spaced_start (0 + i)) × IfSome q.fault (λ x. x ≡ spaced_start (0 + i) + 5)) o.1
    (subst (λ m. (job.start ≡ spaced_start m) × IfSome job.fault (λ x. x ≡ spaced_start m + 5)) n (a, f)))
    (get_snoc jobs job other i e)

pub spaced_push : (jobs new : List Job) (i : ℕ) (job : Job) → new ≡ jobs ++ job ∷ [] → length jobs ≡ i → AreSpacedFrom 0 jobs → job.start ≡ spaced_start i
    → IfSome job.fault (λ x. x ≡ job.start + 5) → AreSpacedFrom 0 new × (length new ≡ i + 1)
spaced_push jobs new i job e n s a f =
    let start : job.start ≡ spaced_start (length jobs) = a ∙ ap spaced_start (sym n) in (
      subst (λ l. AreSpacedFrom 0 l) (sym e) (spaced_snoc jobs job s start (subst (λ m. IfSome job.fault (λ x. x ≡ m + 5)) start f)),
      ap length e ∙ (let l = length-append jobs (job ∷ []) in omega arith),
    )

module _ (low high : ℕ) where
  pub length-spaced : (k n : ℕ) → length (spaced_from low high k n) ≡ n
  length-spaced k zero = refl
  length-spaced k (suc n) = ap suc (length-spaced (suc k) n)

  spaced_at : (k n i : ℕ) → i < n → job_at (spaced_from low high k n) i ≡ spaced_job low high (k + i)
  spaced_at k zero i lt = absurd (omega arith)
  spaced_at k (suc n) zero lt = let e : k ≡ k + 0 = omega arith in ap (λ m. spaced_job low high m) e
  spaced_at k (suc n) (suc i) lt =
      let e : suc k + i ≡ k + suc i = omega arith in
      spaced_at (suc k) n i (omega arith) ∙ ap (λ m. spaced_job low high m) e

  pub spaced_here : (n i : ℕ) → i < length (spaced_jobs low high n) → job_at (spaced_jobs low high n) i ≡ spaced_job low high i
  spaced_here n i lt =
      let e : 0 + i ≡ i = omega arith in
      spaced_at 0 n i (let l = length-spaced 0 n in omega arith) ∙ ap (λ m. spaced_job low high m) e

  fault_is : (b c : Bool) (start : ℕ) → IfSome (cond b (cond c (Some (start + 5)) None) None) (λ x. x ≡ start + 5)
  fault_is true true start = refl
  fault_is true false start = tt
  fault_is false c start = tt

  spaced_is : (k n i : ℕ) (job : Job) → slice_get (spaced_from low high k n) i ≡ Some job → spaced_job low high (k + i) ≡ job
  spaced_is k zero i job e = absurd (cc)
  spaced_is k (suc n) zero job e =
      let m : k + 0 ≡ k = omega arith in let same : spaced_job low high k ≡ job = cc in ap (λ m. spaced_job low high m) m ∙ same
  spaced_is k (suc n) (suc i) job e = let m : k + suc i ≡ suc k + i = omega arith in ap (λ m. spaced_job low high m) m ∙ spaced_is (suc k) n i job e

  are_spaced : (k n : ℕ) → AreSpacedFrom k (spaced_from low high k n)
  are_spaced k n i job e =
      subst (λ (q : Job). (q.start ≡ spaced_start (k + i)) × IfSome q.fault (λ x. x ≡ spaced_start (k + i) + 5)) (spaced_is k n i job e)
      (refl, fault_is (leb low (k + i)) (ltb (k + i) high) (spaced_start (k + i)))

  places : (k n : ℕ) → k + n ≤ 4294967296 → All (λ job. (job.start < no_place) × IfSome job.fault (λ x. x < no_place)) (spaced_from low high k n)
  places k zero le = All-nil (λ (job : Job). (job.start < no_place) × IfSome job.fault (λ x. x < no_place))
  places k (suc n) le =
      let job : Job = spaced_job low high k in
      All-cons (λ (job : Job). (job.start < no_place) × IfSome job.fault (λ x. x < no_place)) job (spaced_from low high (suc k) n)
      (omega arith, below_limit job job.fault (spaced_start k) no_place refl (fault_is (leb low k) (ltb k high) (spaced_start k)) (omega arith))
      (places (suc k) n (omega arith))

  pub spaced_work : (n : ℕ) → n ≤ 4294967296 → AreWorkJobs (spaced_jobs low high n)
  spaced_work n le = record {
    in_order = spaced_are_jobs 0 (spaced_jobs low high n) (are_spaced 0 n);
    places = places 0 n (omega arith);
    few = let l = length-spaced 0 n in omega arith;
  }
