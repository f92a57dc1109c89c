-- The opens and closes of one key: in one list followed by another, and as readings.
use Rattle.std.proofs.Common.{◌≡◌, ℕ, ◌&&◌, ◌||◌, not, Bool, true, false, cond, List, [], ◌∷◌, ◌++◌, map, drop}
use Rattle.std.proofs.Common.{Option, Some, None, refl, sym, ap, ◌∙◌}
use Rattle.std.proofs.lemmas.List.{map-append}
use Rattle.std.specs.List.{cons_option, last_or, list_any}
use Rattle.event_core.specs.declared.pending.KeyEvent.{KeyEvent}
use Rattle.event_core.specs.declared.pending.PendingChange.{PendingChange}
use Rattle.event_core.specs.declared.pending.PendingChange.TheVariants.{Open, Close}
use Rattle.pending_ledger.proofs.LastLaws.{after_last-append, after_last-anew, after_last-none}
use Rattle.pending_ledger.specs.KeyEvents.{event_place, event_change, is_closing, after_last, open_places, is_unmet, unmet_places, first_change, met_count}
use Rattle.pending_ledger.specs.Pending.{is_close, was_open}
use Rattle.summary_law.specs.Readings.{chosen, read_each}

-- opens followed by events without a close
pub open_places-append : (first second : List KeyEvent) → list_any is_closing second ≡ false
    → open_places (first ++ second) ≡ open_places first ++ open_places second
open_places-append first second none =
    ap (map event_place) (after_last-append is_closing first second none)
    ∙ map-append event_place (after_last is_closing first) second
    ∙ ap (λ t. open_places first ++ map event_place t) (sym (after_last-none is_closing second none))

-- opens followed by events with a close
pub open_places-anew : (first second : List KeyEvent) → list_any is_closing second ≡ true → open_places (first ++ second) ≡ open_places second
open_places-anew first second some = ap (map event_place) (after_last-anew is_closing first second some)

-- the last element of one list followed by another
pub last_or-append : {X : Type 0} (o : Option X) (first second : List X) → last_or o (first ++ second) ≡ last_or (last_or o first) second
last_or-append o [] second = refl
last_or-append o (x ∷ first) second = last_or-append (Some x) first second

-- unmet closes, followed by more events
pub unmet_places-append : (before : Option PendingChange) (first second : List KeyEvent)
    → unmet_places before (first ++ second) ≡ unmet_places before first ++ unmet_places (last_or before (map event_change first)) second
unmet_places-append before [] second = refl
unmet_places-append before (event ∷ first) second =
    let rest = unmet_places-append (Some event.change) first second in
    elim (is_unmet before event.change)
    as (λ b. cond b (event.place ∷ unmet_places (Some event.change) (first ++ second)) (unmet_places (Some event.change) (first ++ second))
    ≡ cond b (event.place ∷ unmet_places (Some event.change) first) (unmet_places (Some event.change) first)
    ++ unmet_places (last_or (Some event.change) (map event_change first)) second)
    [ true ↦ ap (λ t. event.place ∷ t) rest | false ↦ rest ]

-- a close right after an open is met
unmet_at : (before : Option PendingChange) (place : ℕ) (change : PendingChange) (rest : List ℕ)
    → cond (is_unmet before change) (place ∷ rest) rest ≡ drop (met_count before (Some change)) (cond (is_unmet None change) (place ∷ rest) rest)
unmet_at (Some Open) place Open rest = refl
unmet_at (Some Open) place Close rest = refl
unmet_at (Some Close) place Open rest = refl
unmet_at (Some Close) place Close rest = refl
unmet_at None place Open rest = refl
unmet_at None place Close rest = refl

met_none : (before : Option PendingChange) → met_count before None ≡ 0
met_none (Some Open) = refl
met_none (Some Close) = refl
met_none None = refl

pub unmet_after : (before : Option PendingChange) (events : List KeyEvent)
    → unmet_places before events ≡ drop (met_count before (first_change events)) (unmet_places None events)
unmet_after before [] = ap (λ (n : ℕ). drop {A = ℕ} n []) (sym (met_none before))
unmet_after before (event ∷ events) = unmet_at before event.place event.change (unmet_places (Some event.change) events)

unmet_is : (before : Option PendingChange) (change : PendingChange) → is_unmet before change ≡ (is_close change && not (was_open before))
unmet_is (Some Open) Open = refl
unmet_is (Some Open) Close = refl
unmet_is (Some Close) Open = refl
unmet_is (Some Close) Close = refl
unmet_is None Open = refl
unmet_is None Close = refl

-- ---- things that are events of one key

module _ {X : Type 0} (event : X → KeyEvent) where
  -- whether it is an open, and nothing later is a close
  abbrev pub is_last_open : List X → X → List X → Bool
  is_last_open before x later = not (is_closing (event x)) && not (list_any (λ y. is_closing (event y)) later)

  -- whether it is a close, and no open comes right before it
  abbrev pub is_unmet_close : List X → X → List X → Bool
  is_unmet_close before x later = is_closing (event x) && not (was_open (last_or None (map (λ y. event_change (event y)) before)))

  any_closing : (xs : List X) → list_any is_closing (map event xs) ≡ list_any (λ y. is_closing (event y)) xs
  any_closing [] = refl
  any_closing (x ∷ xs) = ap (λ (b : Bool). is_closing (event x) || b) (any_closing xs)

  pub opens_read : (before xs : List X) → open_places (map event xs) ≡ map (λ x. event_place (event x)) (read_each (chosen is_last_open) before xs)
  opens_read before [] = refl
  opens_read before (x ∷ xs) =
      let rest = opens_read (before ++ x ∷ []) xs in
      let later = read_each (chosen is_last_open) (before ++ x ∷ []) xs in
      let events = map event xs in
      let place : X → ℕ = λ x. event_place (event x) in
      elim (is_closing (event x)) as (λ c. map event_place (cond (c || list_any is_closing events) (after_last is_closing events) (event x ∷ events))
      ≡ map place (cons_option (cond (not c && not (list_any (λ y. is_closing (event y)) xs)) (Some x) None) later)) [
        | true ↦ rest
        | false ↦
            ap (λ (b : Bool). map event_place (cond b (after_last is_closing events) (event x ∷ events))) (any_closing xs)
            ∙ elim (list_any (λ y. is_closing (event y)) xs) as (λ d. (list_any (λ y. is_closing (event y)) xs ≡ d)
            → map event_place (cond d (after_last is_closing events) (event x ∷ events)) ≡ map place (cons_option (cond (not d) (Some x) None) later)) [
              | true ↦ λ is. rest
              | false ↦ λ is.
                  ap (λ (t : List ℕ). place x ∷ t) (ap (map event_place) (sym (after_last-none is_closing events (any_closing xs ∙ is))) ∙ rest)
            ] refl
      ]

  pub unmet_read : (before xs : List X) → unmet_places (last_or None (map (λ y. event_change (event y)) before)) (map event xs)
      ≡ map (λ x. event_place (event x)) (read_each (chosen is_unmet_close) before xs)
  unmet_read before [] = refl
  unmet_read before (x ∷ xs) =
      let change : X → PendingChange = λ y. event_change (event y) in
      let last = last_or None (map change before) in
      let later = read_each (chosen is_unmet_close) (before ++ x ∷ []) xs in
      let after = unmet_places (Some (change x)) (map event xs) in
      let place : X → ℕ = λ x. event_place (event x) in
      let next : last_or None (map change (before ++ x ∷ [])) ≡ Some (change x)
      = ap (last_or None) (map-append change before (x ∷ [])) ∙ last_or-append None (map change before) (change x ∷ []) in
      let rest : after ≡ map place later = ap (λ (o : Option PendingChange). unmet_places o (map event xs)) (sym next) ∙ unmet_read (before ++ x ∷ []) xs in
      ap (λ (b : Bool). cond b (place x ∷ after) after) (unmet_is last (change x))
      ∙ elim (is_closing (event x) && not (was_open last))
      as (λ b. cond b (place x ∷ after) after ≡ map place (cons_option (cond b (Some x) None) later)) [
        | true ↦ ap (λ (t : List ℕ). place x ∷ t) rest
        | false ↦ rest
      ]
