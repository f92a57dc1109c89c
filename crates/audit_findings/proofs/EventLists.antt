-- Events that pass a test among those of their process: by their items, and from the lists of all processes.
use Rattle.std.proofs.Common.{◌≡◌, ℕ, Bool, true, false, cond, List, [], ◌∷◌, ◌++◌, length, map, All, Option, Some, None, ◌⊎◌, inl, inr, refl, sym, ap, subst, ◌∙◌, ◌||◌, ◌&&◌, not}
use Rattle.std.proofs.Common.{IsPermutation, IsSorted, nat_cmp}
use Rattle.std.specs.Prelude.{option_and_then}
use Rattle.std.specs.List.{filter_map, flat_map, last_or, list_any}
use Rattle.std.specs.Option.{option_map, option_map_or, option_or}
use Rattle.std.specs.Ordering.{eq_by_cmp}
use Rattle.std.proofs.lemmas.List.{length-map, map-append}
use Rattle.std.proofs.lemmas.List.Concat.{flat_map-cons}
use Rattle.std.proofs.lemmas.List.Elements.{All-append, All-head, All-map, All-nil, All-tail, All-weaker}
use Rattle.std.proofs.lemmas.List.Sorted.{IsNonDecreasingBy-from_sort, IsPermutation-map, IsPermutation-sym, IsPermutation-trans}
use Rattle.capture_frame.proofs.ProcessLaws.{same_process_equiv}
use Rattle.capture_frame.specs.Process.{same_process}
use Rattle.capture_frame.specs.Envelope.{PlacedFrame}
use Rattle.capture_frame.specs.declared.process.Process.{Process}
use Rattle.event_core.specs.Events.{EventRead, event_of, events_of, events_of_frames, process_of}
use Rattle.record_view.specs.Records.{records_of}
use Rattle.event_core.specs.declared.pending.KeyEvent.{KeyEvent}
use Rattle.event_core.specs.declared.pending.PendingChange.{PendingChange}
use Rattle.event_core.specs.declared.pending.PendingChange.TheVariants.{Open, Close}
use Rattle.pending_ledger.specs.Pending.{changes_of, closes, is_close, is_unclosed_item, was_open, is_stray_item}
use Rattle.process_ledgers.specs.Items.{KeepsPlace}
use Rattle.process_ledgers.specs.Processes.{process_of_placed, processes_of}
use Rattle.summary_law.specs.Readings.{by_key, chosen, read_all, read_each, with_key}
use Rattle.summary_law.proofs.GatherLaws.{HasKeyOrNothing, gathered_sorted}
use Rattle.summary_law.proofs.InOrderLaws.{each_among_firsts, firsts_distinct}
use Rattle.summary_law.proofs.Members.{Rises, in_place, rises-map}
use Rattle.summary_law.proofs.ReadingLaws.{chosen-is, read-both, read-made, read-picked, read-rises}
use Rattle.audit_findings.specs.declared.open_and_stray.OpenAndStray.{OpenAndStray}
use Rattle.audit_findings.specs.Kept.{pairs_at_places, places_of}
use Rattle.audit_findings.specs.Places.{EventTest, RiseInPlace, either, is_stray_close, is_unclosed, item_is, passing_events, open_and_stray, places_in}
use Rattle.std.proofs.lemmas.List.Folds.{flat_map-map}

abbrev pub place_of_event : EventRead → ℕ
place_of_event e = e.place

-- ---- an event passes if its item does

module _ {I : Type 0} (place : I → ℕ) (read : EventRead → Option I) (keeps : KeepsPlace place read) (test : List I → I → List I → Bool) where
  abbrev of_item : List EventRead → EventRead → List EventRead → Option I
  of_item b e l = option_and_then (λ i. chosen test (filter_map read b) i (filter_map read l)) (read e)

  placed_item : (b : List EventRead) (e : EventRead) (l : List EventRead)
      → option_map place (of_item b e l) ≡ option_map place_of_event (chosen (item_is read test) b e l)
  placed_item b e l =
      let passes : I → Bool = λ i. test (filter_map read b) i (filter_map read l) in
      elim (read e) as (λ o. (read e ≡ o) → option_map place (option_and_then (λ i. cond (passes i) (Some i) None) o)
      ≡ option_map place_of_event (cond (option_map_or passes o false) (Some e) None)) [
        | None ↦ λ is. refl
        | Some i ↦ λ is.
            elim (passes i) as (λ t. option_map place (cond t (Some i) None) ≡ option_map place_of_event (cond t (Some e) None))
            [ true ↦ ap Some (keeps e i is) | false ↦ refl ]
      ] refl

  pub items_listed : (own : List EventRead)
      → map place (read_all (chosen test) (filter_map read own)) ≡ places_of (read_all (chosen (item_is read test)) own)
  items_listed own =
      ap (map place) (read-picked (chosen test) read [] own) ∙ read-made of_item place [] own
      ∙ ap (λ (r : List EventRead → EventRead → List EventRead → Option ℕ). read_each r [] own) (λ i b e l. placed_item b e l i)
      ∙ sym (read-made (chosen (item_is read test)) place_of_event [] own)

-- ---- the processes of events

-- what holds of the processes of frames holds of those of their events
each_own : (P : Process → Type 0) (frames : List PlacedFrame) → All P (map process_of_placed frames)
    → All (λ (e : EventRead). P (process_of e)) (events_of_frames frames)
each_own P [] all = All-nil (λ (e : EventRead). P (process_of e))
each_own P (f ∷ frames) all =
    let Own = λ (e : EventRead). P (process_of e) in
    let here : P (process_of_placed f) = All-head P (process_of_placed f) (map process_of_placed frames) all in
    let mine : All Own (events_of f) = All-map Own (event_of f) (records_of f).units (λ j d within. here) in
    subst (All Own) (sym (flat_map-cons events_of f frames))
    (All-append Own (events_of f) (events_of_frames frames) mine
    (each_own P frames (All-tail P (process_of_placed f) (map process_of_placed frames) all)))

-- the process of the event is among these
abbrev pub IsKnown : List Process → EventRead → Type 0
IsKnown known e = list_any (same_process (process_of e)) known ≡ true

-- the process of each event of these frames is one of theirs
pub each_known : (frames : List PlacedFrame) → All (IsKnown (processes_of frames)) (events_of_frames frames)
each_known frames =
    each_own (λ process. list_any (same_process process) (processes_of frames) ≡ true) frames
    (each_among_firsts same_process_equiv (map process_of_placed frames))

-- ---- the events of all processes

-- the events of this event's process
abbrev beside : EventRead → List EventRead → List EventRead
beside e others = with_key same_process process_of (process_of e) others

-- the places of listed events rise
pub listed_rises : (test : EventTest) (events : List EventRead) → RiseInPlace events → Rises place_of_event (passing_events test events)
listed_rises test events rise =
    read-rises (by_key same_process process_of (chosen test)) place_of_event place_of_event
    (λ b e l y is. ap place_of_event (chosen-is test (beside e b) e (beside e l) y is)) events rise

-- the lists of all processes, gathered and sorted
pub lists_sorted : (test : EventTest) (frames : List PlacedFrame) → RiseInPlace (events_of_frames frames) → (lists : List (List ℕ))
    → lists ≡ map (places_in test (events_of_frames frames)) (processes_of frames) → (places : List ℕ)
    → IsPermutation (flat_map (λ (own : List ℕ). own) lists) places → IsSorted nat_cmp places → places ≡ places_of (passing_events test (events_of_frames frames))
lists_sorted test frames rise lists are places moved sorted =
    let events = events_of_frames frames in
    let processes = processes_of frames in
    let Has = HasKeyOrNothing same_process_equiv process_of (chosen test) processes in
    let flat : flat_map (λ (own : List ℕ). own) lists ≡ flat_map (places_in test events) processes
    = ap (flat_map (λ (own : List ℕ). own)) are ∙ flat_map-map (λ (own : List ℕ). own) (places_in test events) processes in
    gathered_sorted same_process_equiv process_of (chosen test) place_of_event (λ n. n) processes
    (firsts_distinct same_process_equiv (map process_of_placed frames)) events
    (All-weaker (IsKnown processes) Has
    (λ e known. inl (ap (λ (t : Process → Bool). list_any t processes) (λ i k. same_process_equiv.symm k (process_of e) i) ∙ known)) events (each_known frames))
    (listed_rises test events rise) places
    (subst (λ (t : List ℕ). IsPermutation t places) flat moved) (IsNonDecreasingBy-from_sort (λ n. n) places sorted)

-- ---- opens and closes

module _ (read : EventRead → Option (ℕ × KeyEvent)) where
  abbrev reads : EventTest → List EventRead → EventRead → List EventRead → Option EventRead
  reads test = by_key same_process process_of (chosen test)

  abbrev Apart : Bool → Bool → Type 0
  Apart first second = (first ≡ false) ⊎ (second ≡ false)

  change_apart : (b l : List (ℕ × KeyEvent)) (i : ℕ × KeyEvent) → Apart (is_unclosed_item (eq_by_cmp nat_cmp) b i l) (is_stray_item (eq_by_cmp nat_cmp) b i l)
  change_apart b l i = one_way i.1.change (not (list_any (closes (eq_by_cmp nat_cmp) i.0) l)) (not (was_open (last_or None (changes_of (eq_by_cmp nat_cmp) i.0 b))))
    where
      one_way : (change : PendingChange) (stays goes : Bool) → Apart (not (is_close change) && stays) (is_close change && goes)
      one_way Open stays goes = inr refl
      one_way Close stays goes = inl refl

  tests_apart : (b : List EventRead) (e : EventRead) (l : List EventRead) → Apart (is_unclosed read b e l) (is_stray_close read b e l)
  tests_apart b e l =
      let before = filter_map read b in
      let later = filter_map read l in
      elim (read e) as (λ o. Apart (option_map_or (λ i. is_unclosed_item (eq_by_cmp nat_cmp) before i later) o false)
      (option_map_or (λ i. is_stray_item (eq_by_cmp nat_cmp) before i later) o false)) [
        | None ↦ inl refl
        | Some i ↦ change_apart before later i
      ]

  chosen_apart : (first second : Bool) (e : EventRead) → Apart first second
      → (cond first (Some e) None ≡ None) ⊎ (cond second (Some e) None ≡ None)
  chosen_apart first second e (inl is) = inl (ap (λ b. cond b (Some e) None) is)
  chosen_apart first second e (inr is) = inr (ap (λ b. cond b (Some e) None) is)

  chosen_either : (first second : Bool) (e : EventRead)
      → option_or (cond first (Some e) None) (cond second (Some e) None) ≡ cond (first || second) (Some e) None
  chosen_either true second e = refl
  chosen_either false second e = elim second as (λ b. option_or None (cond b (Some e) None) ≡ cond b (Some e) None) [ true ↦ refl | false ↦ refl ]

  -- the unclosed opens followed by the stray closes are all of both, but for the order
  both_listed : (events : List EventRead)
      → IsPermutation (passing_events (is_unclosed read) events ++ passing_events (is_stray_close read) events) (passing_events (either (is_unclosed read) (is_stray_close read)) events)
  both_listed events =
      subst (IsPermutation (passing_events (is_unclosed read) events ++ passing_events (is_stray_close read) events))
      (ap (λ (r : List EventRead → EventRead → List EventRead → Option EventRead). read_each r [] events)
      (λ i b e l. chosen_either (is_unclosed read (beside e b) e (beside e l)) (is_stray_close read (beside e b) e (beside e l)) e i))
      (read-both (reads (is_unclosed read)) (reads (is_stray_close read))
      (λ b e l. chosen_apart (is_unclosed read (beside e b) e (beside e l)) (is_stray_close read (beside e b) e (beside e l)) e
      (tests_apart (beside e b) e (beside e l))) [] events)

  -- what is kept of both
  pub both_kept : (events : List EventRead) → RiseInPlace events → (opens closes rows : List ℕ) → opens ≡ places_of (passing_events (is_unclosed read) events)
      → closes ≡ places_of (passing_events (is_stray_close read) events) → IsPermutation (opens ++ closes) rows → IsSorted nat_cmp rows → (found : OpenAndStray ℕ)
      → found.unclosed ≡ length opens → found.strays ≡ length closes → found.rows ≡ rows → found ≡ pairs_at_places (open_and_stray read events)
  both_kept events rise opens closes rows opened closed moved sorted found many_opens many_closes same =
      let Unclosed = passing_events (is_unclosed read) events in
      let Strays = passing_events (is_stray_close read) events in
      let all = passing_events (either (is_unclosed read) (is_stray_close read)) events in
      let parts : opens ++ closes ≡ places_of (Unclosed ++ Strays)
      = ap (λ (t : List ℕ). t ++ closes) opened ∙ ap (λ (t : List ℕ). places_of Unclosed ++ t) closed
      ∙ sym (map-append place_of_event Unclosed Strays) in
      let whole : places_of all ≡ rows
      = in_place (λ n. n) (places_of all) rows (rises-map place_of_event (λ n. n) all (listed_rises (either (is_unclosed read) (is_stray_close read)) events rise))
      (IsPermutation-trans (places_of all) (opens ++ closes) rows
      (subst (IsPermutation (places_of all)) (sym parts)
      (IsPermutation-sym (places_of (Unclosed ++ Strays)) (places_of all) (IsPermutation-map place_of_event (Unclosed ++ Strays) all (both_listed events)))) moved)
      (IsNonDecreasingBy-from_sort (λ n. n) rows sorted) in
      let many_unclosed = many_opens ∙ ap length opened ∙ length-map Unclosed place_of_event in
      let many_strays = many_closes ∙ ap length closed ∙ length-map Strays place_of_event in
      λ i. record { unclosed = many_unclosed i; strays = many_strays i; rows = (same ∙ sym whole) i }
