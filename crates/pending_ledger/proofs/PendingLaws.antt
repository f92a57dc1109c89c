-- What is outstanding under each key, and what is a stray there, in the whole list.
use Rattle.std.proofs.Common.{◌≡◌, ℕ, ◌&&◌, ◌||◌, not, Bool, true, false, cond, List, [], ◌∷◌, map, Some, None}
use Rattle.std.proofs.Common.{IsPermutation, IsSorted, nat_cmp, Ordering, refl, ap, subst, ◌∙◌, sym}
use Rattle.std.proofs.lemmas.Cmp.{eq_by_cmp_equiv}
use Rattle.std.proofs.lemmas.List.{map-id}
use Rattle.std.proofs.lemmas.List.Sorted.{IsNonDecreasingBy-from_sort}
use Rattle.std.proofs.lemmas.Map.Keys.{IsDistinct-from_sorted}
use Rattle.std.specs.BTreeMap.{IsOrdered}
use Rattle.std.specs.Cmp.{IsTotalOrder}
use Rattle.std.specs.List.{cons_option, last_or, list_any}
use Rattle.std.specs.Map.{keys_of}
use Rattle.std.specs.Ordering.{eq_by_cmp}
use Rattle.event_core.specs.declared.pending.KeyEvent.{KeyEvent}
use Rattle.pending_ledger.proofs.KeyLaws.{is_last_open, is_unmet_close, opens_read, unmet_read}
use Rattle.pending_ledger.specs.declared.key.KeyLedger.{KeyLedger}
use Rattle.pending_ledger.specs.declared.pending.Pending.{Pending}
use Rattle.pending_ledger.specs.KeyEvents.{event_change, is_closing}
use Rattle.pending_ledger.specs.Pending.{is_close, was_open, closes, changes_of, is_unclosed_item, is_stray_item, place_of, places_if}
use Rattle.pending_ledger.specs.Sums.{gather, KeySums, PendingSums}
use Rattle.summary_law.proofs.GatherLaws.{as_it_is, entries_sorted, map_each, map_none}
use Rattle.summary_law.proofs.ReadingLaws.{chosen-is, read-rises}
use Rattle.summary_law.specs.ByKey.{SumsByKey}
use Rattle.summary_law.specs.Readings.{by_key, chosen, read_all, with_key}

-- ---- what is seen under the key of an item

abbrev pub key_of : {K : Type 0} → K × KeyEvent → K
key_of item = item.0

abbrev pub event_of : {K : Type 0} → K × KeyEvent → KeyEvent
event_of item = item.1

module _ {K : Type 0} (eq : K → K → Bool) where
  closes_under : (key : K) (items : List (K × KeyEvent)) → list_any (closes eq key) items ≡ list_any (λ i. is_closing (event_of i)) (with_key eq key_of key items)
  closes_under key [] = refl
  closes_under key (item ∷ items) =
      let own = with_key eq (λ (i : K × KeyEvent). key_of i) key items in
      elim (eq key item.0)
      as (λ b. ((b && is_close item.1.change) || list_any (closes eq key) items) ≡ list_any (λ i. is_closing (event_of i)) (cond b (item ∷ own) own))
      [ true ↦ ap (λ b. is_close item.1.change || b) (closes_under key items) | false ↦ closes_under key items ]

  changes_under : (key : K) (items : List (K × KeyEvent)) → changes_of eq key items ≡ map (λ i. event_change (event_of i)) (with_key eq key_of key items)
  changes_under key [] = refl
  changes_under key (item ∷ items) =
      let own = with_key eq (λ (i : K × KeyEvent). key_of i) key items in
      elim (eq key item.0)
      as (λ b. cons_option (cond b (Some item.1.change) None) (changes_of eq key items) ≡ map (λ i. event_change (event_of i)) (cond b (item ∷ own) own))
      [ true ↦ ap (λ t. item.1.change ∷ t) (changes_under key items) | false ↦ changes_under key items ]

  left_open_by_key : chosen (is_unclosed_item eq) ≡ by_key eq key_of (chosen (is_last_open event_of))
  left_open_by_key = λ t before item later. cond (not (is_close item.1.change) && not (closes_under item.0 later t)) (Some item) None

  stray_by_key : chosen (is_stray_item eq) ≡ by_key eq key_of (chosen (is_unmet_close event_of))
  stray_by_key = λ t before item later. cond (is_close item.1.change && not (was_open (last_or None (changes_under item.0 before t)))) (Some item) None

-- the lists of one key's ledger
abbrev pub opens_of : KeyLedger → List ℕ
opens_of ledger = ledger.opens.places

abbrev pub strays_of : KeyLedger → List ℕ
strays_of ledger = ledger.strays.places.items

module _ {K : Type 0} (cmp : K → K → Ordering) (laws : IsTotalOrder cmp) (pending : Pending K) (ordered : IsOrdered cmp pending.keys)
    (items : List (K × KeyEvent)) (sums : PendingSums cmp pending items) where
  -- what the ledger of each key lists, gathered and sorted, is what passes a test that sees only items of the same key
  of_keys : (test : List (K × KeyEvent) → K × KeyEvent → List (K × KeyEvent) → Bool) (lists : KeyLedger → List ℕ)
      → ((ledger : KeyLedger) (own : List (K × KeyEvent)) → KeySums ledger (map event_of own) → lists ledger ≡ places_if test own) → (places : List ℕ)
      → IsPermutation (gather lists pending.keys.entries) places → IsSorted nat_cmp places
      → places ≡ map place_of (read_all (by_key (eq_by_cmp cmp) key_of (chosen test)) items)
  of_keys test lists tells places moved sorted =
      let m = pending.keys in
      let item_of : K × KeyEvent → K × KeyEvent = λ item. item in
      let all = subst (SumsByKey cmp KeySums m) (sym (map-id items)) sums.0 in
      entries_sorted (eq_by_cmp_equiv laws) item_of (chosen test) place_of KeySums lists
      (λ ledger own holds. as_it_is (lists ledger) (places_if test own) (tells ledger own holds)) items m.entries
      (IsDistinct-from_sorted cmp (keys_of m.entries) ordered) (map_each cmp laws KeySums m ordered (map item_of items) all)
      (map_none cmp laws KeySums m ordered (map item_of items) all) (λ n. n)
      (read-rises (by_key (eq_by_cmp cmp) key_of (chosen test)) place_of place_of
      (λ b x l y is. ap place_of (chosen-is test (with_key (eq_by_cmp cmp) key_of x.0 b) x (with_key (eq_by_cmp cmp) key_of x.0 l) y is)) items sums.1.1)
      places moved (IsNonDecreasingBy-from_sort (λ n. n) places sorted)

  -- the gathered opens, sorted
  pub outstanding_sorted : (places : List ℕ) → IsPermutation (gather opens_of pending.keys.entries) places → IsSorted nat_cmp places
      → places ≡ places_if (is_unclosed_item (eq_by_cmp cmp)) items
  outstanding_sorted places moved sorted =
      of_keys (is_last_open event_of) opens_of (λ ledger own holds. holds.0.places ∙ opens_read event_of [] own) places moved sorted
      ∙ ap (λ read. map place_of (read_all read items)) (sym (left_open_by_key (eq_by_cmp cmp)))

  -- the gathered strays, sorted
  pub strays_sorted : (places : List ℕ) → IsPermutation (gather strays_of pending.keys.entries) places → IsSorted nat_cmp places
      → places ≡ places_if (is_stray_item (eq_by_cmp cmp)) items
  strays_sorted places moved sorted =
      of_keys (is_unmet_close event_of) strays_of (λ ledger own holds. holds.1.places ∙ unmet_read event_of [] own) places moved sorted
      ∙ ap (λ read. map place_of (read_all read items)) (sym (stray_by_key (eq_by_cmp cmp)))
