-- Two halves of a crew, and what they did, put together.
use Rattle.std.proofs.Common.{◌≡◌, ◌≢◌, ℕ, ◌-◌, ◌/◌, ◌<◌, true, false, List, [], ◌∷◌, ◌++◌, map, length, take, drop, sym, refl, ap, ◌∙◌, subst, arith, append_assoc, length-take, length-drop, All, Result, Ok, Err}
use Rattle.std.specs.Prelude.{IfOk}
use Rattle.std.specs.declared.vec.Vec.{Vec}
use mathlib.Core.List.{map-append}
use Rattle.std.proofs.lemmas.List.{length-map, take-append-drop}
use Rattle.std.proofs.lemmas.List.Elements.{All-append, All-take, All-drop}
use Rattle.atomic_table.specs.Seated.{TableId}
use Rattle.atomic_table.specs.declared.shared.Seat.{Seat}
use Rattle.claim_board.specs.declared.job.Job.{Job}
use Rattle.claim_board.specs.declared.job.JobState.{JobState}
use Rattle.claim_board.specs.declared.job.JobState.TheVariants.{Untouched, Held, Faulty, Done, Skipped, Lowered}
use Rattle.claim_board.specs.declared.view.ClaimedJob.{ClaimedJob}
use Rattle.claim_board.specs.declared.view.SeatWorker.{SeatWorker}
use Rattle.claim_board.specs.declared.view.View.{View}
use Rattle.claim_board.specs.Steps.{IsSeatAt, left_view, right_view, joined_view}
use Rattle.claim_board.specs.Work.{with_done, done_jobs, AreAllResults, AreResults, IsOneList, IsSameCrew, IsFresh, MayShare, IsForSame, HaveStopped}

with_done-append : (i : ℕ) (s : JobState) (a b : List ℕ) → with_done i s (a ++ b) ≡ a ++ with_done i s b
with_done-append i Untouched a b = refl
with_done-append i (Held w) a b = refl
with_done-append i (Faulty w) a b = refl
with_done-append i (Done w) a b = append_assoc a b (i ∷ [])
with_done-append i (Skipped w) a b = refl
with_done-append i (Lowered w) a b = refl

pub done_jobs-append : (a b : List ClaimedJob) → done_jobs (a ++ b) ≡ done_jobs b ++ done_jobs a
done_jobs-append [] b = sym (mathlib.Core.List.append-nil (done_jobs b))
done_jobs-append (c ∷ cs) b = ap (λ l. with_done c.job c.state l) (done_jobs-append cs b) ∙ with_done-append c.job c.state (done_jobs b) (done_jobs cs)

results_joined : {X : Type 0} (gives : ℕ → X → Type 0) (v w : View) (a b : List (ℕ × X)) → AreResults gives v.claimed a → AreResults gives w.claimed b
    → AreResults gives (joined_view v w).claimed (a ++ b)
results_joined gives v w a b r q = record {
  jobs = map-append (λ (p : ℕ × _). p.0) a b
      ∙ (ap (λ l. l ++ map (λ p. p.0) b) r.jobs ∙ (ap (λ l. done_jobs v.claimed ++ l) q.jobs ∙ sym (done_jobs-append w.claimed v.claimed)));
  given = All-append (λ p. gives p.0 p.1) a b r.given q.given;
}

have_stopped_joined : (v w : View) → HaveStopped v → HaveStopped w → HaveStopped (joined_view v w)
have_stopped_joined v w a b = All-append (λ (m : SeatWorker). m.stopped ≡ true) v.crew w.crew a b

pub crew_joined : (v l r : View) → IsSameCrew (left_view v) l → IsSameCrew (right_view v) r → IsSameCrew v (joined_view l r)
crew_joined v l r a b = record {
  jobs = a.jobs;
  workers = a.workers;
  crew =
      let f : SeatWorker → ℕ = λ m. m.worker in
      map-append f l.crew r.crew ∙ (ap (λ x. x ++ map f r.crew) a.crew ∙ (ap (λ x. map f (left_view v).crew ++ x) b.crew
      ∙ (sym (map-append f (left_view v).crew (right_view v).crew) ∙ ap (map f) (take-append-drop (length v.crew / 2) v.crew))));
}

pub crew_stays : (v w : View) → IsSameCrew v w → length w.crew ≡ length v.crew
crew_stays v w s =
    let f : SeatWorker → ℕ = λ m. m.worker in
    sym (length-map w.crew f) ∙ (ap (λ l. length l) s.crew ∙ length-map v.crew f)

module _ (v l0 r0 l r u : View) (cut : l0 ≡ left_view v) (other : r0 ≡ right_view v) (a : IsSameCrew l0 l) (b : IsSameCrew r0 r) where
  crew_again : u ≡ joined_view l r → IsSameCrew v u
  crew_again is = subst (λ x. IsSameCrew v x) (sym is) (crew_joined v l r (subst (λ x. IsSameCrew x l) cut a) (subst (λ x. IsSameCrew x r) other b))

  left_some : 1 < length v.crew → 0 < length l.crew
  left_some more =
      let s = crew_stays l0 l a in
      let e : length l0.crew ≡ length (take (length v.crew / 2) v.crew) = ap (λ x. length x.crew) cut in
      let t = length-take (length v.crew / 2) v.crew in
      omega arith

-- the seat was split from the old one with half of its workers, and the other seat has the other half
abbrev pub IsSplit : Seat (Unit {0}) View → Seat (Unit {0}) View → Seat (Unit {0}) View → Type 0
IsSplit old cut other =
    (cut.table_id ≡ old.table_id) × (cut.id ≡ old.id) × (cut.me ≡ (left_view old.me.0, old.me.1)) × (other.table_id ≡ old.table_id)
    × (other.me ≡ (right_view old.me.0, []))

-- the seat is the left one once the right one has been joined to it
abbrev pub IsJoin : Seat (Unit {0}) View → Seat (Unit {0}) View → Seat (Unit {0}) View → Type 0
IsJoin l r new = (new.table_id ≡ l.table_id) × (new.id ≡ l.id) × (new.me ≡ (joined_view l.me.0 r.me.0, l.me.1))

-- after the split, the steps of both halves and the join, the seat has the same workers
pub same_again : (old cut other l r new : Seat (Unit {0}) View) → IsSplit old cut other → IsForSame cut l → IsForSame other r → IsJoin l r new
    → IsForSame old new
same_again old cut other l r new s low high j = (
  (j.0 ∙ (low.0.0 ∙ s.0), j.1 ∙ (low.0.1 ∙ s.1), ap (λ x. x.1) j.2 ∙ (low.0.2 ∙ ap (λ x. x.1) s.2)),
  crew_again old.me.0 cut.me.0 other.me.0 l.me.0 r.me.0 new.me.0 (ap (λ x. x.0) s.2) (ap (λ x. x.0) s.4) low.1 high.1 (ap (λ x. x.0) j.2),
)

-- the join is allowed
pub may_join : (table : TableId) (old cut other l r : Seat (Unit {0}) View) → IsSeatAt table old → 1 < length old.me.0.crew → IsSplit old cut other
    → IsForSame cut l → IsForSame other r
    → (l.table_id ≡ table) × (r.table_id ≡ table) × (r.me.1 ≡ []) × (0 < length l.me.0.crew)
may_join table old cut other l r place more s low high = (
  low.0.0 ∙ (s.0 ∙ place.1),
  high.0.0 ∙ (s.3 ∙ place.1),
  high.0.2 ∙ ap (λ x. x.1) s.4,
  left_some old.me.0 cut.me.0 other.me.0 l.me.0 r.me.0 old.me.0 (ap (λ x. x.0) s.2) (ap (λ x. x.0) s.4) low.1 high.1 more,
)

-- the joined list has the results of the workers of both halves
pub both_joined : {X A E : Type 0} (gives : ℕ → X → Type 0) (l r new : Seat (Unit {0}) View) (front back result : Result (Vec (ℕ × X) A) E)
    → IsJoin l r new → IfOk front (λ list. AreAllResults gives l.me.0 list.items) → IfOk back (λ list. AreAllResults gives r.me.0 list.items)
    → IfOk result (λ all. IsOneList front back all) → IfOk result (λ all. AreAllResults gives new.me.0 all.items)
both_joined gives l r new front back (Err e) j low high one = tt
both_joined gives l r new (Err e) back (Ok all) j low high one = absurd one
both_joined gives l r new (Ok a) (Err e) (Ok all) j low high one = absurd one
both_joined gives l r new (Ok a) (Ok b) (Ok all) j low high one =
    let v = l.me.0 in
    let w = r.me.0 in
    let is : new.me.0 ≡ joined_view v w = ap (λ x. x.0) j.2 in (
      subst HaveStopped (sym is) (have_stopped_joined v w low.0 high.0),
      subst (λ x. AreResults gives x.claimed all.items) (sym is)
          (subst (AreResults gives (joined_view v w).claimed) (sym one) (results_joined gives v w a.items b.items low.1 high.1)),
    )

fresh_part : (v u : View) (crew : List SeatWorker) → u ≡ record v { crew = crew } → v.claimed ≡ [] → All (λ m. m.stopped ≡ false) crew → IsFresh u
fresh_part v u crew e none some = record {
  claimed = ap (λ x. x.claimed) e ∙ none;
  crew = subst (λ x. All (λ m. m.stopped ≡ false) x.crew) (sym e) some;
}

-- each half of a seat whose workers have made no step may share the jobs in its turn
pub halves_may_share : (table : TableId) (jobs : List Job) (n : ℕ) (old cut other : Seat (Unit {0}) View) → MayShare table jobs n old → n ≢ 1
    → IsSplit old cut other → MayShare table jobs (n / 2) cut × MayShare table jobs (n - n / 2) other
halves_may_share table jobs n old cut other m more s =
    let v = old.me.0 in
    let half = length v.crew / 2 in
    let low : cut.me.0 ≡ left_view v = ap (λ x. x.0) s.2 in
    let high : other.me.0 ≡ right_view v = ap (λ x. x.0) s.4 in
    let whole = m.crew in
    let some = m.at_least_one in (
      record {
        place = (m.place.0, s.0 ∙ m.place.1);
        over = ap (λ x. x.jobs) low ∙ m.over;
        fresh = fresh_part v cut.me.0 (take half v.crew) low m.fresh.claimed (All-take (λ m. m.stopped ≡ false) half v.crew m.fresh.crew);
        crew = ap (λ x. length x.crew) low ∙ (let t = length-take half v.crew in omega (arith, whole, t));
        at_least_one = omega (arith, some, more);
      },
      record {
        place = (m.place.0, s.3 ∙ m.place.1);
        over = ap (λ x. x.jobs) high ∙ m.over;
        fresh = fresh_part v other.me.0 (drop half v.crew) high m.fresh.claimed (All-drop (λ m. m.stopped ≡ false) half v.crew m.fresh.crew);
        crew = ap (λ x. length x.crew) high ∙ (let t = length-drop half v.crew in omega (arith, whole, t));
        at_least_one = omega (arith, some, more);
      },
    )
