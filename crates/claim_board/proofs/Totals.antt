-- Sums over views, claimed jobs and crews.
use Rattle.std.proofs.Common.{◌≡◌, ℕ, zero, suc, ◌+◌, ◌*◌, ◌<◌, ◌≤◌, ◌≢◌, ◌==◌, Bool, true, false, List, [], ◌∷◌, ◌++◌, length, set, sym, refl, ap, ◌∙◌, subst, arith, eq-eqb, ne_eqb, replicate, Some}
use mathlib.Core.Option.{some, some-injective, some-ne-none}
use mathlib.Core.Logic.{dite}
use native.Mathlib.Decide.{ℕ_discrete, dec_le}
use lib.ListN.{get_elem?}
use Rattle.std.specs.List.{All, slice_get}
use Rattle.std.proofs.Math.Nat.{mul-suc}
use Rattle.std.proofs.lemmas.List.Elements.{All-head, All-tail, All-nil, All-cons}
use Rattle.atomic_table.proofs.Lists.{set_else}
use Rattle.claim_board.specs.declared.job.JobState.{JobState}
use Rattle.claim_board.specs.declared.job.JobState.TheVariants.{Untouched, Held, Faulty, Done, Skipped, Lowered}
use Rattle.claim_board.specs.declared.view.ClaimedJob.{ClaimedJob}
use Rattle.claim_board.specs.declared.view.SeatWorker.{SeatWorker}
use Rattle.claim_board.specs.declared.view.View.{View}
use Rattle.claim_board.specs.Running.{bit, open_weight, name_weight, job_weight, open_count, name_count, crew_weight, one_at, stopped_count, stopped_count_of, weight_below, total}

pub total-set : {A : Type 0} (f : A → ℕ) (l : List A) (i : ℕ) (v w : A) → get_elem? l i ≡ some v → total f (set l i w) + f v ≡ total f l + f w
total-set f [] i v w e = absurd (some-ne-none v (sym e))
total-set f (x ∷ xs) zero v w e = let is : f x ≡ f v = ap f (some-injective x v e) in omega arith
total-set f (x ∷ xs) (suc i) v w e = let r = total-set f xs i v w e in omega arith

pub total-plus : (f g : View → ℕ) (l : List View) → total (λ v. f v + g v) l ≡ total f l + total g l
total-plus f g [] = refl
total-plus f g (x ∷ xs) = let r = total-plus f g xs in omega arith

pub total-le : (f g : View → ℕ) (l : List View) → ((v : View) → f v ≤ g v) → total f l ≤ total g l
total-le f g [] h = omega arith
total-le f g (x ∷ xs) h = let r = total-le f g xs h in let here = h x in omega arith

pub total-at : (f : View → ℕ) (l : List View) (i : ℕ) (v : View) → get_elem? l i ≡ some v → f v ≤ total f l
total-at f [] i v e = absurd (some-ne-none v (sym e))
total-at f (x ∷ xs) zero v e = let is : f x ≡ f v = ap f (some-injective x v e) in omega arith
total-at f (x ∷ xs) (suc i) v e = let r = total-at f xs i v e in omega arith

pub each-at : (P : View → Type 0) (l : List View) (i : ℕ) (v : View) → get_elem? l i ≡ some v → All P l → P v
each-at P [] i v e a = absurd (some-ne-none v (sym e))
each-at P (x ∷ xs) zero v e a = subst P (some-injective x v e) (All-head P x xs a)
each-at P (x ∷ xs) (suc i) v e a = each-at P xs i v e (All-tail P x xs a)

pub bit_le : (b : Bool) → bit b ≤ 1
bit_le true = omega arith
bit_le false = omega arith

pub one_more : (w u : ℕ) (f : ℕ → ℕ) → f w ≡ 0 → f u ≤ 1 → bit (w == u) + f u ≤ 1
one_more w u f zeroed few = dite (ℕ_discrete w u)
    (λ (e : w ≡ u). let z : f u ≡ 0 = ap f (sym e) ∙ zeroed in let b = bit_le (w == u) in omega arith)
    (λ (n : w ≢ u). let z : bit (w == u) ≡ 0 = ap bit (ne_eqb w u n) in omega arith)

pub bit-same : (w : ℕ) → bit (w == w) ≡ 1
bit-same w = ap bit (eq-eqb w w refl)

pub job_weight-ones : (cs : List ClaimedJob) → job_weight (λ _. 1) cs ≡ length cs
job_weight-ones [] = refl
job_weight-ones (c ∷ cs) = let r = job_weight-ones cs in omega arith

-- the same where the list is read by `slice_get`
pub total-put : {A : Type 0} (f : A → ℕ) (l : List A) (i : ℕ) (x y : A) → slice_get l i ≡ Some x → total f (set l i y) + f x ≡ total f l + f y
total-put f [] i x y e = absurd (cc)
total-put f (z ∷ zs) zero x y e = let is : z ≡ x = cc in let same = ap f is in omega arith
total-put f (z ∷ zs) (suc i) x y e = let r = total-put f zs i x y e in omega arith

pub total-replicate : {A : Type 0} (f : A → ℕ) (n : ℕ) (x : A) → f x ≡ 0 → total f (replicate n x) ≡ 0
total-replicate f zero x z = refl
total-replicate f (suc n) x z = let r = total-replicate f n x z in omega arith

pub total_few : {A : Type 0} (f : A → ℕ) (most : ℕ) → ((x : A) → f x ≤ most) → (l : List A) → total f l ≤ most * length l
total_few f most few [] = omega arith
total_few f most few (x ∷ xs) = let r = total_few f most few xs in let h = few x in omega (arith, mul-suc most (length xs))

pub total-append : {A : Type 0} (f : A → ℕ) (a b : List A) → total f (a ++ b) ≡ total f a + total f b
total-append f [] b = omega arith
total-append f (x ∷ xs) b = let r = total-append f xs b in omega arith

pub stopped_count-le : (ms : List SeatWorker) → stopped_count ms ≤ crew_weight (λ _. 1) ms
stopped_count-le [] = omega arith
stopped_count-le (m ∷ ms) = let r = stopped_count-le ms in let b = bit_le m.stopped in omega arith

times_bit : (a : ℕ) (b : Bool) → a * bit b ≤ a
times_bit a true = omega arith
times_bit a false = omega arith

pub stopped_count_of-le : (w : ℕ) (ms : List SeatWorker) → stopped_count_of w ms ≤ crew_weight (one_at w) ms
stopped_count_of-le w [] = omega arith
stopped_count_of-le w (m ∷ ms) = let r = stopped_count_of-le w ms in let t = times_bit (bit (m.worker == w)) m.stopped in omega arith

open_weight-le : (w : ℕ) (s : JobState) → open_weight w s ≤ name_weight w s
open_weight-le w Untouched = omega arith
open_weight-le w (Held u) = omega arith
open_weight-le w (Faulty u) = omega arith
open_weight-le w (Done u) = omega arith
open_weight-le w (Skipped u) = omega arith
open_weight-le w (Lowered u) = omega arith

pub open_count-le : (w : ℕ) (cs : List ClaimedJob) → open_count w cs ≤ name_count w cs
open_count-le w [] = omega arith
open_count-le w (c ∷ cs) = let r = open_count-le w cs in let p = open_weight-le w c.state in omega arith

pub weight_below-ones : (n : ℕ) → weight_below (λ _. 1) n ≡ n
weight_below-ones zero = refl
weight_below-ones (suc n) = let r = weight_below-ones n in omega arith

pub weight_below-none : (w n : ℕ) → n ≤ w → weight_below (one_at w) n ≡ 0
weight_below-none w zero le = refl
weight_below-none w (suc n) le =
    let r = weight_below-none w n (omega arith) in
    let ne : n ≢ w = omega arith in
    let z : bit (n == w) ≡ 0 = ap bit (ne_eqb n w ne) in
    omega arith

pub weight_below-one_at : (w n : ℕ) → weight_below (one_at w) n ≤ 1
weight_below-one_at w zero = omega arith
weight_below-one_at w (suc n) = dite (ℕ_discrete n w)
    (λ (e : n ≡ w). let r = weight_below-none w n (omega arith) in let b = bit_le (n == w) in omega arith)
    (λ (ne : n ≢ w). let r = weight_below-one_at w n in let z : bit (n == w) ≡ 0 = ap bit (ne_eqb n w ne) in omega arith)

head_below : (n : ℕ) (c : ClaimedJob) (cs : List ClaimedJob) → ((x : ℕ) → n ≤ x → job_weight (one_at x) (c ∷ cs) ≡ 0) → Dec (n ≤ c.job) → c.job < n
head_below n c cs z (yes le) = let one = bit-same c.job in let e = z c.job le in absurd (omega arith)
head_below n c cs z (no more) = omega arith

pub claimed_below : (n : ℕ) (cs : List ClaimedJob) → ((x : ℕ) → n ≤ x → job_weight (one_at x) cs ≡ 0) → All (λ c. c.job < n) cs
claimed_below n [] z = All-nil (λ c. c.job < n)
claimed_below n (c ∷ cs) z =
    All-cons (λ (c : ClaimedJob). c.job < n) c cs (head_below n c cs z (dec_le n c.job))
    (claimed_below n cs (λ x le. let e = z x le in omega arith))

-- two views weigh no more than all views
pub total-two : (f : View → ℕ) (l : List View) (i j : ℕ) (v w e : View) → f e ≡ 0 → get_elem? l i ≡ some v → j ≢ i → get_elem? l j ≡ some w
    → f v + f w ≤ total f l
total-two f l i j v w e z at ne there =
    let s = total-set f l i v e at in
    let t = total-at f (set l i e) j w (set_else l i j e ne ∙ there) in
    omega arith
