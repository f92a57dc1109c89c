-- A seat may be split in two, and two seats may be joined.
use Rattle.std.proofs.Common.{◌≡◌, ℕ, ◌+◌, ◌*◌, ◌/◌, ◌<◌, ◌≤◌, ◌≢◌, List, [], ◌∷◌, ◌++◌, length, take, drop, set, sym, refl, ap, ◌∙◌, inl, inr, ⊎_elim, arith, length-append}
use mathlib.Core.Option.{some}
use mathlib.Core.Logic.{dite}
use native.Mathlib.Decide.{ℕ_discrete}
use lib.ListN.{get_elem?}
use Rattle.std.proofs.lemmas.List.{take-append-drop}
use Rattle.std.proofs.lemmas.List.Elements.{All-set, All-append, All-push, All-nil}
use Rattle.atomic_table.specs.Table.{Splits, Joins}
use Rattle.atomic_table.proofs.Lists.{set_else}
use Rattle.claim_board.specs.declared.job.Job.{Job}
use Rattle.claim_board.specs.declared.view.SeatWorker.{SeatWorker}
use Rattle.claim_board.specs.declared.view.View.{View}
use Rattle.claim_board.specs.Running.{bit, open_weight, name_weight, lowered_weight, no_place, job_weight, open_count, name_count, lowered_count, crew_weight, one_at, stopped_count, stopped_count_of, total, spent_view, IsGood, IsView, IsKept, IsRuled}
use Rattle.claim_board.specs.Steps.{left_view, right_view, joined_view}
use Rattle.claim_board.proofs.Totals.{total-set, total-two, total-append, each-at, stopped_count_of-le, open_count-le, weight_below-one_at}

module _ (jobs : List Job) (workers next least : ℕ) (views : List View) (k : IsKept jobs workers next least views) (id : ℕ) (v : View)
    (at : get_elem? views id ≡ some v) (some_crew : 0 < length v.crew) where
  had : IsView jobs workers least v
  had = each-at (IsView jobs workers least) views id v at k.each

  copied : (v.jobs ≡ jobs) × (v.workers ≡ workers)
  copied = ⊎_elim (λ (e : v ≡ spent_view). absurd (
      let z : length v.crew ≡ 0 = ap (λ u. length u.crew) e in
      omega arith)) (λ (c : (v.jobs ≡ jobs) × (v.workers ≡ workers)). c) had.copy

  module _ (empty : v.claimed ≡ []) (l r : List SeatWorker) (cut : l ++ r ≡ v.crew) where
    part : (m : List SeatWorker) → ((u : ℕ) → stopped_count_of u m ≤ stopped_count_of u v.crew) → IsView jobs workers least (record v { crew = m })
    part m le = record {
      copy = inr copied;
      claimed = had.claimed;
      one = λ u. let o = had.one u in let h = le u in omega arith;
      own = λ u gone. ap (λ cs. name_count u cs) empty;
    }

    both_halts : (u : ℕ) → stopped_count_of u l + stopped_count_of u r ≡ stopped_count_of u v.crew
    both_halts u = sym (total-append (λ m. one_at u m.worker * bit m.stopped) l r) ∙ ap (λ m. stopped_count_of u m) cut

    pub split_kept : IsKept jobs workers next least (set views id (record v { crew = l }) ++ (record v { crew = r }) ∷ [])
    split_kept =
        let left : View = record v { crew = l } in
        let right : View = record v { crew = r } in
        record {
          key = k.key;
          each = All-push (IsView jobs workers least) (set views id left) right
              (All-set (IsView jobs workers least) views id left (part l (λ u. let b = both_halts u in omega arith)) k.each)
              (part r (λ u. let b = both_halts u in omega arith));
          each_job_once = λ h.
              let z : job_weight h v.claimed ≡ 0 = ap (λ cs. job_weight h cs) empty in
              let s = total-set (λ u. job_weight h u.claimed) views id v left at in
              let n = total-append (λ u. job_weight h u.claimed) (set views id left) (right ∷ []) in
              let c = k.each_job_once h in
              omega arith;
          each_worker_once = λ h.
              let m : crew_weight h l + crew_weight h r ≡ crew_weight h v.crew
              = sym (total-append (λ m. h m.worker) l r) ∙ ap (λ x. crew_weight h x) cut in
              let s = total-set (λ u. crew_weight h u.crew) views id v left at in
              let n = total-append (λ u. crew_weight h u.crew) (set views id left) (right ∷ []) in
              let c = k.each_worker_once h in
              omega arith;
          claim_word =
              let z : length v.claimed ≡ 0 = ap (λ cs. length cs) empty in
              let m : stopped_count l + stopped_count r ≡ stopped_count v.crew
              = sym (total-append (λ m. bit m.stopped) l r) ∙ ap (λ x. stopped_count x) cut in
              let s = total-set (λ u. length u.claimed + stopped_count u.crew) views id v left at in
              let n = total-append (λ u. length u.claimed + stopped_count u.crew) (set views id left) (right ∷ []) in
              let c = k.claim_word in
              omega arith;
          fault_word = ⊎_elim (λ (e : least ≡ no_place). inl e)
              (λ (p : 0 < total (λ u. lowered_count jobs least u.claimed) views). inr (
              let z : lowered_count jobs least v.claimed ≡ 0 = ap (λ cs. lowered_count jobs least cs) empty in
              let s = total-set (λ u. lowered_count jobs least u.claimed) views id v left at in
              let n = total-append (λ u. lowered_count jobs least u.claimed) (set views id left) (right ∷ []) in
              omega arith)) k.fault_word;
        }

  module _ (other : ℕ) (w : View) (apart : other ≢ id) (there : get_elem? views other ≡ some w) where
    theirs : IsView jobs workers least w
    theirs = each-at (IsView jobs workers least) views other w there k.each

    few : (u : ℕ) → crew_weight (one_at u) v.crew + crew_weight (one_at u) w.crew ≤ 1
    few u =
        let t = total-two (λ x. crew_weight (one_at u) x.crew) views id other v w spent_view refl at apart there in
        let m = k.each_worker_once (one_at u) in
        let b = weight_below-one_at u workers in
        omega arith

    one_of : (u : ℕ) → open_count u (w.claimed ++ v.claimed) + stopped_count_of u (v.crew ++ w.crew) ≤ 1
    one_of u =
        let f = few u in let o = had.one u in let p = theirs.one u in
        let b = total-append (λ c. open_weight u c.state) w.claimed v.claimed in
        let h = total-append (λ m. one_at u m.worker * bit m.stopped) v.crew w.crew in
        let hv = stopped_count_of-le u v.crew in let hw = stopped_count_of-le u w.crew in
        let bv = open_count-le u v.claimed in let bw = open_count-le u w.claimed in
        dite (ℕ_discrete (crew_weight (one_at u) v.crew) 0)
        (λ (e : crew_weight (one_at u) v.crew ≡ 0). let n = had.own u e in omega arith)
        (λ (ne : crew_weight (one_at u) v.crew ≢ 0). let z : crew_weight (one_at u) w.crew ≡ 0 = omega arith in let n = theirs.own u z in omega arith)

    joined : IsView jobs workers least (joined_view v w)
    joined = record {
      copy = inr copied;
      claimed = All-append (IsGood jobs least) w.claimed v.claimed theirs.claimed had.claimed;
      one = one_of;
      own = λ u gone.
          let m = total-append (λ m. one_at u m.worker) v.crew w.crew in
          let a = had.own u (omega arith) in
          let b = theirs.own u (omega arith) in
          let n = total-append (λ c. name_weight u c.state) w.claimed v.claimed in
          omega arith;
    }

    same : (f : View → ℕ) → f (joined_view v w) ≡ f v + f w → f spent_view ≡ 0 → total f (set (set views id (joined_view v w)) other spent_view) ≡ total f views
    same f e z =
        let s = total-set f views id v (joined_view v w) at in
        let t = total-set f (set views id (joined_view v w)) other w spent_view (set_else views id other (joined_view v w) apart ∙ there) in
        omega arith

    pub join_kept : IsKept jobs workers next least (set (set views id (joined_view v w)) other spent_view)
    join_kept = record {
      key = k.key;
      each = All-set (IsView jobs workers least) (set views id (joined_view v w)) other spent_view
          (record { copy = inl refl; claimed = All-nil (IsGood jobs least); one = λ u. omega arith; own = λ u gone. refl })
          (All-set (IsView jobs workers least) views id (joined_view v w) joined k.each);
      each_job_once = λ h.
          let a = total-append (λ c. h c.job) w.claimed v.claimed in
          same (λ u. job_weight h u.claimed) (omega arith) refl ∙ k.each_job_once h;
      each_worker_once = λ h. same (λ u. crew_weight h u.crew) (total-append (λ m. h m.worker) v.crew w.crew) refl ∙ k.each_worker_once h;
      claim_word = k.claim_word ∙ sym (same (λ u. length u.claimed + stopped_count u.crew) (
          let a = length-append w.claimed v.claimed in
          let b = total-append (λ m. bit m.stopped) v.crew w.crew in
          omega arith) (omega arith));
      fault_word = ⊎_elim (λ (e : least ≡ no_place). inl e)
          (λ (p : 0 < total (λ u. lowered_count jobs least u.claimed) views). inr (
          let a = total-append (λ c. lowered_weight jobs least c.job c.state) w.claimed v.claimed in
          let s = same (λ u. lowered_count jobs least u.claimed) (omega arith) refl in
          omega arith)) k.fault_word;
    }

pub splits_allowed : (jobs : List Job) (workers id : ℕ) (v : View) → 0 < length v.crew → v.claimed ≡ []
    → Splits (IsRuled jobs workers) id v (left_view v) (right_view v)
splits_allowed jobs workers id v some_crew empty s held at = (
  held.0,
  held.1,
  held.2,
  split_kept jobs workers held.0 held.1 s.views held.3 id v at some_crew empty (take (length v.crew / 2) v.crew)
      (drop (length v.crew / 2) v.crew) (take-append-drop (length v.crew / 2) v.crew),
)

pub joins_allowed : (jobs : List Job) (workers id : ℕ) (v : View) (other : ℕ) (w : View) → 0 < length v.crew
    → Joins (IsRuled jobs workers) id v other w (joined_view v w) spent_view
joins_allowed jobs workers id v other w some_crew s held at apart there = (
  held.0,
  held.1,
  held.2,
  join_kept jobs workers held.0 held.1 s.views held.3 id v at some_crew other w apart
      (sym (set_else s.views id other (joined_view v w) apart) ∙ there),
)
