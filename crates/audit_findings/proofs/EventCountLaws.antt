-- The counts of items of a process are counts of records over all events.
use Rattle.std.proofs.Common.{◌≡◌, ℕ, ℤ, pos, ◌-ℤ◌, Bool, true, false, cond, ◌&&◌, List, [], ◌∷◌, filter, filter_map, map, take, Option, None, refl, sym, ap, ap₂, subst, ◌∙◌, arith}
use Rattle.std.specs.List.{cons_option}
use Rattle.std.specs.Option.{option_map_or}
use Rattle.std.specs.Prelude.{◌≤ℤ◌, count_by}
use Rattle.std.proofs.lemmas.Int.{ints}
use Rattle.std.proofs.lemmas.List.{length-map, take-map}
use Rattle.capture_frame.specs.Process.{same_process}
use Rattle.capture_frame.specs.declared.process.Process.{Process}
use Rattle.event_core.specs.Events.{EventRead, process_of}
use Rattle.process_ledgers.specs.Processes.{items_of_process}
use Rattle.summary_law.proofs.CountLaws.{is_counted, read_counts}
use Rattle.summary_law.proofs.FilterLaws.{count_by-map}
use Rattle.summary_law.specs.Count.{Change, IsCount, change_read, count_of, is_lower, is_raise, keeps, total}
use Rattle.summary_law.specs.declared.count.Count.{Count}
use Rattle.audit_findings.specs.EventCounts.{HasValue, difference_in}

-- what is read of the events that pass a test
pub read_kept : {X Y : Type 0} (test : X → Bool) (read : X → Option Y) (xs : List X) → filter_map read (filter test xs) ≡ filter_map (λ x. cond (test x) (read x) None) xs
read_kept test read [] = refl
read_kept {X} {Y} test read (x ∷ xs) =
    let rest = read_kept test read xs in
    elim (test x) as (λ b. filter_map read (cond b (x ∷ filter test xs) (filter test xs))
    ≡ cons_option (cond b (read x) None) (filter_map (λ x. cond (test x) (read x) None) xs)) [
      | true ↦ ap (cons_option (read x)) rest
      | false ↦ rest
    ]

-- one list of events has one sum and one low of a value
pub value_once : (value : List EventRead → ℤ) (events : List EventRead) (one other : Count) → HasValue value events one → HasValue value events other → one ≡ other
value_once value events one other a b =
    let reached = a.reached.2 in
    let other_reached = b.reached.2 in
    let above = b.least a.reached.0 a.reached.1 in
    let below = a.least b.reached.0 b.reached.1 in
    let low : one.low ≡ other.low = omega (arith, ints) in
    ap₂ (λ (sum low : ℤ). let made : Count = record { sum = sum; low = low } in made) (a.sum ∙ sym b.sum) low

-- the items that are read from the events of a process, and what each does to a count: it raises the count where the
-- event passes one test, and lowers it where the event passes another
module _ {I : Type 0} (read : EventRead → Option I) (change : I → Change) (more less : EventRead → Bool)
    (raise : (e : EventRead) → is_raise (option_map_or change (read e) keeps) ≡ more e)
    (lower : (e : EventRead) → is_lower (option_map_or change (read e) keeps) ≡ less e) (process : Process) where
  abbrev in_process : EventRead → Bool
  in_process e = same_process process (process_of e)

  abbrev own : EventRead → Option I
  own e = cond (in_process e) (read e) None

  own_raise : (e : EventRead) → is_raise (change_read own change e) ≡ (in_process e && more e)
  own_raise e = elim (in_process e) as (λ b. is_raise (option_map_or change (cond b (read e) None) keeps) ≡ (b && more e)) [ true ↦ raise e | false ↦ refl ]

  own_lower : (e : EventRead) → is_lower (change_read own change e) ≡ (in_process e && less e)
  own_lower e = elim (in_process e) as (λ b. is_lower (option_map_or change (cond b (read e) None) keeps) ≡ (b && less e)) [ true ↦ lower e | false ↦ refl ]

  abbrev changes : List EventRead → List Change
  changes events = map (change_read own change) events

  total_is : (events : List EventRead) → total (changes events) ≡ difference_in process more less events
  total_is events =
      ap₂ (λ (a b : ℕ). pos a -ℤ pos b)
      (count_by-map (change_read own change) is_raise events ∙ ap (λ (t : EventRead → Bool). count_by t events) (λ i e. own_raise e i))
      (count_by-map (change_read own change) is_lower events ∙ ap (λ (t : EventRead → Bool). count_by t events) (λ i e. own_lower e i))

  prefix_is : (n : ℕ) (events : List EventRead) → total (take n (changes events)) ≡ difference_in process more less (take n events)
  prefix_is n events = ap total (take-map (change_read own change) n events) ∙ total_is (take n events)

  has_value : (count : Count) (events : List EventRead) → IsCount count (changes events) → HasValue (difference_in process more less) events count
  has_value count events is =
      let long = length-map events (change_read own change) in
      let within = is.reached.1 in
      record {
        sum = is.sum ∙ total_is events;
        reached = (is.reached.0, omega (arith, long, within), is.reached.2 ∙ prefix_is is.reached.0 events);
        least = λ n inside. subst (λ (z : ℤ). count.low ≤ℤ z) (prefix_is n events) (is.least n (omega (arith, long, inside)));
      }

  -- the count of the items of the process is that of the records over all events
  pub items_value : (events : List EventRead) → HasValue (difference_in process more less) events (count_of (map change (items_of_process read process events)))
  items_value events =
      let items = items_of_process read process events in
      has_value (count_of (map change items)) events
      (read_counts own change (count_of (map change items)) events
      (subst (λ (own_items : List I). IsCount (count_of (map change items)) (map change own_items)) (read_kept in_process read events) (is_counted (map change items))))
