-- The leaked deliveries of a process are those whose address no later free of the process has, among all events.
use Rattle.std.proofs.Common.{◌≡◌, ℕ, ◌<◌, ◌≤◌, Bool, true, false, cond, eqb, ◌&&◌, ◌||◌, not, List, [], ◌∷◌, ◌++◌, filter, filter_map, Option, Some, None, inl, inr, refl, sym, ap, ap₂, subst, ◌∙◌, arith, nat_lt}
use Rattle.std.specs.Cmp.{both_ways}
use Rattle.std.specs.List.{cons_option, list_any}
use Rattle.std.specs.Option.{option_map_or}
use Rattle.std.specs.Ordering.{eq_by_cmp, nat_cmp}
use Rattle.std.proofs.lemmas.Bool.{and_parts, and_right, cases_Bool, eq-eqb, lt-ltb, ltb-true}
use Rattle.std.proofs.lemmas.List.Folds.{list_any-append}
use Rattle.std.proofs.lemmas.Option.{cond_some}
use Rattle.binder_code.specs.declared.record_kind.Kind.{Kind}
use Rattle.binder_code.specs.declared.record_kind.Kind.TheVariants.{BcFreeBuffer, BrReply, BrTransaction, BrTransactionSecCtx}
use Rattle.capture_frame.specs.Envelope.{number_at}
use Rattle.capture_frame.specs.Process.{same_process}
use Rattle.capture_frame.specs.declared.process.Process.{Process}
use Rattle.event_core.specs.Events.{EventRead, process_of}
use Rattle.pending_ledger.specs.Pending.{closes}
use Rattle.process_ledgers.specs.Items.{buffer_pending_of}
use Rattle.process_ledgers.specs.Processes.{events_in}
use Rattle.summary_law.proofs.GatherLaws.{in_any}
use Rattle.summary_law.proofs.Members.{In, Rises, in_middle, rises_from_pairs}
use Rattle.summary_law.proofs.ReadingLaws.{at-read, chosen-is, read-at}
use Rattle.summary_law.specs.Readings.{chosen, read_all}
use Rattle.transaction_view.specs.Transaction.{buffer}
use Rattle.audit_findings.specs.Buffers.{is_leaked}
use Rattle.audit_findings.specs.HandleRows.{delivers, frees, frees_after, is_outstanding}
use Rattle.audit_findings.specs.Places.{RiseInPlace, passing_in}
use Rattle.audit_findings.proofs.CodeLaws.{same_key}
use Rattle.audit_findings.proofs.EventLists.{place_of_event}
use Rattle.audit_findings.proofs.HandleRows.{among_at, is_among, listed_there}
use Rattle.audit_findings.proofs.Kept.{in_kept, kept_in, one_there}
use Rattle.audit_findings.proofs.Rising.{rising_kept}

-- ---- any element

any_read : {X Y : Type 0} (test : Y → Bool) (read : X → Option Y) (xs : List X)
    → list_any test (filter_map read xs) ≡ list_any (λ x. option_map_or test (read x) false) xs
any_read test read [] = refl
any_read test read (x ∷ xs) =
    let rest = any_read test read xs in
    elim (read x) as (λ o. list_any test (cons_option o (filter_map read xs)) ≡ (option_map_or test o false || list_any (λ x. option_map_or test (read x) false) xs))
    [ None ↦ rest | Some y ↦ ap (λ (b : Bool). test y || b) rest ]

any_kept : {X : Type 0} (test other : X → Bool) (xs : List X) → list_any (λ x. test x && other x) xs ≡ list_any other (filter test xs)
any_kept test other [] = refl
any_kept test other (x ∷ xs) =
    let rest = any_kept test other xs in
    elim (test x) as (λ b. ((b && other x) || list_any (λ x. test x && other x) xs) ≡ list_any other (cond b (x ∷ filter test xs) (filter test xs)))
    [ true ↦ ap (λ (b : Bool). other x || b) rest | false ↦ rest ]

any_same : {X : Type 0} (test other : X → Bool) (xs : List X) → ((x : X) → In x xs → test x ≡ other x) → list_any test xs ≡ list_any other xs
any_same test other [] same = refl
any_same test other (x ∷ xs) same = ap₂ (λ (a b : Bool). a || b) (same x (inl refl)) (any_same test other xs (λ y there. same y (inr there)))

any_never : {X : Type 0} (test : X → Bool) (xs : List X) → ((x : X) → In x xs → test x ≡ false) → list_any test xs ≡ false
any_never test [] never = refl
any_never test (x ∷ xs) never = rw (never x (inl refl)) (any_never test xs (λ y there. never y (inr there)))

-- ---- deliveries and frees

-- whether an event frees the buffer at this address
abbrev frees_at : ℕ → EventRead → Bool
frees_at address x = frees x.kind && eqb (number_at 8 0 x.payload) address

closes_at : (address : ℕ) (x : EventRead) → option_map_or (closes (eq_by_cmp nat_cmp) address) (buffer_pending_of x) false ≡ frees_at address x
closes_at address x = by_kind x.kind refl
  where
    free_closes : (b c : Bool) → b ≡ c → (b && true) ≡ c
    free_closes true c same = same
    free_closes false c same = same

    by_kind : (kind : Kind) → x.kind ≡ kind → option_map_or (closes (eq_by_cmp nat_cmp) address) (buffer_pending_of (record x { kind = kind })) false
        ≡ (frees kind && eqb (number_at 8 0 x.payload) address)
    by_kind BcFreeBuffer is =
        free_closes (eq_by_cmp nat_cmp address (number_at 8 0 x.payload)) (eqb (number_at 8 0 x.payload) address) (same_key address (number_at 8 0 x.payload))
    by_kind BrTransaction is = and_right (eq_by_cmp nat_cmp address (buffer x.payload)) false refl
    by_kind BrTransactionSecCtx is = and_right (eq_by_cmp nat_cmp address (buffer x.payload)) false refl
    by_kind BrReply is = and_right (eq_by_cmp nat_cmp address (buffer x.payload)) false refl
    by_kind _ is = refl

-- an event is leaked if it delivers and no later event frees its address
leaked_is : (before later : List EventRead) (e : EventRead) → is_leaked before e later ≡ (delivers e.kind && not (list_any (frees_at (buffer e.payload)) later))
leaked_is before later e = by_kind e.kind
  where
    none_later : not (list_any (closes (eq_by_cmp nat_cmp) (buffer e.payload)) (filter_map buffer_pending_of later))
        ≡ not (list_any (frees_at (buffer e.payload)) later)
    none_later =
        ap not (any_read (closes (eq_by_cmp nat_cmp) (buffer e.payload)) buffer_pending_of later
        ∙ ap (λ (t : EventRead → Bool). list_any t later) (λ i x. closes_at (buffer e.payload) x i))

    by_kind : (kind : Kind) → is_leaked before (record e { kind = kind }) later ≡ (delivers kind && not (list_any (frees_at (buffer e.payload)) later))
    by_kind BrTransaction = none_later
    by_kind BrTransactionSecCtx = none_later
    by_kind BrReply = none_later
    by_kind BcFreeBuffer = refl
    by_kind _ = refl

-- ---- later events

-- in a list in rising place, what comes before an element is below it, and what comes after it is above it
split_rises : {X : Type 0} (rank : X → ℕ) (before : List X) (x : X) (later : List X) → Rises rank (before ++ x ∷ later)
    → ((y : X) → In y before → rank y < rank x) × ((y : X) → In y later → rank x < rank y)
split_rises rank [] x later rises = (λ y there. absurd there, rises.0)
split_rises rank (z ∷ before) x later rises =
    let rest = split_rises rank before x later rises.1 in (
      λ y there. elim there [
        | inl same ↦ subst (λ w. rank w < rank x) (sym same) (rises.0 x (in_middle before x later))
        | inr further ↦ rest.0 y further
      ],
      rest.1,
    )

not_below : (m n : ℕ) → n ≤ m → nat_lt m n ≡ false
not_below m n more = elim (cases_Bool (nat_lt m n)) [
  | inl passes ↦ let less = ltb-true m n passes in absurd (omega (arith, less, more))
  | inr fails ↦ fails
]

module _ (events : List EventRead) (rise : RiseInPlace events) (process : Process) where
  abbrev in_process : EventRead → Bool
  in_process x = same_process process (process_of x)

  abbrev own : List EventRead
  own = events_in process events

  own_rises : Rises place_of_event own
  own_rises = rises_from_pairs place_of_event own (rising_kept place_of_event in_process events rise)

  -- the frees after an event of the process are those among the later events of the process
  frees_later : (before : List EventRead) (e : EventRead) (later : List EventRead) → own ≡ before ++ e ∷ later → (address : ℕ)
      → list_any (frees_after process address e.place) events ≡ list_any (frees_at address) later
  frees_later before e later split address =
      let after : EventRead → Bool = λ x. frees x.kind && eqb (number_at 8 0 x.payload) address && nat_lt e.place x.place in
      let order = split_rises place_of_event before e later (subst (Rises place_of_event) split own_rises) in
      let off : (x : EventRead) → nat_lt e.place x.place ≡ false → after x ≡ false = λ x fails.
      ap (λ (b : Bool). frees x.kind && eqb (number_at 8 0 x.payload) address && b) fails ∙ last_false (frees x.kind) (eqb (number_at 8 0 x.payload) address) in
      let on : (x : EventRead) → nat_lt e.place x.place ≡ true → after x ≡ frees_at address x = λ x passes.
      ap (λ (b : Bool). frees x.kind && eqb (number_at 8 0 x.payload) address && b) passes ∙ last_true (frees x.kind) (eqb (number_at 8 0 x.payload) address) in
      any_kept in_process after events ∙ ap (list_any after) split ∙ list_any-append after before (e ∷ later)
      ∙ ap₂ (λ (a b : Bool). a || b) (any_never after before (λ x there. off x (let below = order.0 x there in not_below e.place x.place (omega (arith, below)))))
      (ap₂ (λ (a b : Bool). a || b) (off e (not_below e.place e.place (omega arith))) (any_same after (frees_at address) later (λ x there. on x (lt-ltb e.place x.place (order.1 x there)))))
    where
      last_false : (a b : Bool) → (a && b && false) ≡ false
      last_false true true = refl
      last_false true false = refl
      last_false false b = refl

      last_true : (a b : Bool) → (a && b && true) ≡ (a && b)
      last_true true true = refl
      last_true true false = refl
      last_true false b = refl

  -- in the list of the process's events, a leaked delivery is an outstanding one
  leaked_there : (before : List EventRead) (e : EventRead) (later : List EventRead) → own ≡ before ++ e ∷ later → in_process e ≡ true
      → is_leaked before e later ≡ is_outstanding events process e
  leaked_there before e later split here =
      leaked_is before later e ∙ ap (λ (b : Bool). delivers e.kind && not b) (sym (frees_later before e later split (buffer e.payload)))
      ∙ ap (λ (b : Bool). b && (delivers e.kind && not (list_any (frees_after process (buffer e.payload) e.place) events))) (sym here)

  in_split : {X : Type 0} (xs : List X) (x : X) → In x xs → (before : List X) × (later : List X) × (xs ≡ before ++ x ∷ later)
  in_split [] x here = absurd here
  in_split {X} (y ∷ xs) x (inl same) = ([], xs, ap (λ (z : X). z ∷ xs) (sym same))
  in_split {X} (y ∷ xs) x (inr there) =
      let rest = in_split xs x there in
      (y ∷ rest.0, rest.1, ap (λ (t : List X). y ∷ t) rest.2)

  -- an event is among the leaked deliveries of the process, by its place, if it is an outstanding one
  pub among_leaked : (e : EventRead) → In e events → is_among (passing_in is_leaked process events) e ≡ is_outstanding events process e
  among_leaked e there = both_ways (is_among (passing_in is_leaked process events) e) (is_outstanding events process e) to from
    where
      to : is_among (passing_in is_leaked process events) e ≡ true → is_outstanding events process e ≡ true
      to is =
          let other = among_at (passing_in is_leaked process events) e is in
          let same : other.0 ≡ e = one_there place_of_event events (rises_from_pairs place_of_event events rise) other.0 e
          (listed_there is_leaked process events rise other.0 other.1) there other.2 in
          let at = read-at (chosen is_leaked) [] own other.0 other.1 in
          let itself : other.0 ≡ at.1 = chosen-is is_leaked at.0 at.1 at.2 other.0 at.4 in
          let split : own ≡ at.0 ++ e ∷ at.2 = at.3 ∙ ap (λ (x : EventRead). at.0 ++ x ∷ at.2) (sym itself ∙ same) in
          let leaked : is_leaked at.0 at.1 at.2 ≡ true = (cond_some (is_leaked at.0 at.1 at.2) at.1 other.0 at.4).0 in
          let kept = in_kept in_process events e (subst (In e) (sym split) (in_middle at.0 e at.2)) in
          sym (leaked_there at.0 e at.2 split kept.1) ∙ ap (λ (x : EventRead). is_leaked at.0 x at.2) (sym same ∙ itself) ∙ leaked

      from : is_outstanding events process e ≡ true → is_among (passing_in is_leaked process events) e ≡ true
      from is =
          let here : in_process e ≡ true
          = (and_parts (in_process e) (delivers e.kind && not (list_any (frees_after process (buffer e.payload) e.place) events)) is).0 in
          let split = in_split own e (kept_in in_process events e there here) in
          let leaked : is_leaked split.0 e split.1 ≡ true = leaked_there split.0 e split.1 split.2 here ∙ is in
          let chooses : chosen is_leaked split.0 e split.1 ≡ Some e = ap (λ (b : Bool). cond b (Some e) None) leaked in
          let listed : In e (passing_in is_leaked process events)
          = subst (λ (t : List EventRead). In e (read_all (chosen is_leaked) t)) (sym split.2) (at-read (chosen is_leaked) [] split.0 e split.1 e chooses) in
          in_any (λ (x : EventRead). eqb x.place e.place) (passing_in is_leaked process events) e listed (eq-eqb e.place e.place refl)
