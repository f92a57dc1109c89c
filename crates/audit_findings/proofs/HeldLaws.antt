-- The references that attachments hold, and tallies of them.
use Rattle.std.proofs.Common.{◌≡◌, ℕ, suc, drop, ◌+◌, ◌<◌, ◌^◌, ◌≤◌, List, [], ◌∷◌, ◌++◌, length, map, Some, None, refl, sym, ap, subst, ◌∙◌, append_assoc, length-append, arith, get_or, take}
use Rattle.std.specs.List.{cons_option, filter_map, flat_map}
use Rattle.std.specs.Option.{option_map_or}
use Rattle.std.proofs.lemmas.Grind.{flat_map-append}
use Rattle.std.proofs.lemmas.List.{append-nil, length-map, map-append, take_more}
use Rattle.std.proofs.lemmas.List.Concat.{flat_map-cons}
use Rattle.std.proofs.lemmas.List.Elements.{filter_map-append}
use Rattle.std.proofs.lemmas.List.Sums.{sum_by-append, sum_by-cons}
use Rattle.std.proofs.Math.Seq.{split_at}
use Rattle.capture_frame.specs.Units.{Placed}
use Rattle.transaction_view.specs.Attachments.{EntryText}
use Rattle.transaction_view.specs.State.{placed_entry}
use Rattle.event_core.specs.Events.{EventRead}
use Rattle.handle_ledger.specs.Held.{Held, held_cmp}
use Rattle.object_view.specs.Objects.{ObjectText, no_objects, objects_of}
use Rattle.object_view.proofs.ObjectLaws.{objects_short}
use Rattle.summary_law.proofs.ReadLaws.{length-read}
use Rattle.summary_law.specs.Fits.{IsShort}
use Rattle.summary_law.specs.Tally.{TallySums}
use Rattle.summary_law.specs.declared.tally.Tally.{Tally}
use Rattle.transaction_view.specs.declared.entry.Entry.{Entry}
use Rattle.audit_findings.specs.Entries.{carried_by, list_bytes}
use Rattle.audit_findings.specs.Held.{reference_of, unweighed}
use Rattle.audit_findings.specs.HeldCounts.{good_in, CountsEntries, CountsHeld, CountsMore, CountsObjects, HasRoom}
use Rattle.audit_findings.specs.Objects.{good_objects}
use Rattle.std.proofs.lemmas.List.Folds.{flat_map-map}
use Rattle.summary_law.proofs.FedLaws.{after_some}

-- ---- one more reference

-- references that there is room for can be tallied
pub short_unweighed : (held : List Held) → length held ≤ 2 ^ 32 → IsShort (unweighed held)
short_unweighed held short =
    let pair : Held → Held × ℕ = λ reference. (reference, 0) in
    let long = length-map held pair in
    omega (arith, long, short)

-- there is room for one more after those of these objects
pub room_for_last : (held : List Held) (objects : List ObjectText) (reference : Held) (n : ℕ) → length held + n ≤ 2 ^ 32 → length objects + 1 ≤ n
    → IsShort (unweighed (held ++ filter_map reference_of objects) ++ (reference, 0) ∷ [])
room_for_last held objects reference n room few =
    let more = filter_map reference_of objects in
    let all = held ++ more in
    let long = length-append held more in
    let longer = length-append all (reference ∷ []) in
    let read = length-read reference_of objects in
    subst (λ (items : List (Held × ℕ)). IsShort items) (map-append (λ (r : Held). (r, 0)) all (reference ∷ []))
    (short_unweighed (all ++ reference ∷ []) (omega (arith, long, longer, read, room, few)))

-- the tally with one reference more counts those of the objects with the last one
pub counts_last : (held : List Held) (objects : List ObjectText) (o : ObjectText) (reference : Held) (tally : Tally Held) → reference_of o ≡ Some reference
    → TallySums held_cmp tally (unweighed (held ++ filter_map reference_of objects) ++ (reference, 0) ∷ [])
    → CountsHeld tally (held ++ filter_map reference_of (objects ++ o ∷ []))
counts_last held objects o reference tally is sums =
    let more = filter_map reference_of objects in
    let one : unweighed (held ++ more) ++ (reference, 0) ∷ [] ≡ unweighed ((held ++ more) ++ reference ∷ []) =
    sym (map-append (λ (r : Held). (r, 0)) (held ++ more) (reference ∷ [])) in
    let all : (held ++ more) ++ reference ∷ [] ≡ held ++ filter_map reference_of (objects ++ o ∷ []) =
    append_assoc held more (reference ∷ []) ∙ ap (λ (t : List Held). held ++ t) (sym (after_some reference_of objects o reference is)) in
    subst (CountsHeld tally) all (subst (TallySums held_cmp tally) one sums)

-- ---- the entries so far

-- the same tally counts no more references
pub counts_none : (tally : Tally Held) (n : ℕ) → CountsMore tally n [] tally
counts_none tally n held counts room = subst (CountsHeld tally) (sym (append-nil held)) counts

-- the references that these entries hold
abbrev pub held_among : List Entry → List Held
held_among entries = filter_map reference_of (flat_map good_in entries)

-- the list of offsets of an entry
abbrev list_long : Entry → ℕ
list_long entry = length entry.offsets.now

held-cons : (e : Entry) (entries : List Entry) → held_among (e ∷ entries) ≡ filter_map reference_of (good_in e) ++ held_among entries
held-cons e entries =
    ap (filter_map reference_of) (flat_map-cons good_in e entries) ∙ filter_map-append reference_of (good_in e) (flat_map good_in entries)

held_few : (entries : List Entry) → length (held_among entries) ≤ list_bytes entries
held_few [] = omega arith
held_few (e ∷ entries) =
    let first = objects_short e.body.now e.offsets.now in
    let read = length-read reference_of (good_in e) in
    let rest = held_few entries in
    let long = ap length (held-cons e entries) ∙ length-append (filter_map reference_of (good_in e)) (held_among entries) in
    let all = sum_by-cons list_long e entries in
    omega (arith, first, read, rest, long, all)

module _ (entries : List Entry) (few : list_bytes entries ≤ 2 ^ 32) (i : ℕ) (entry : Entry) (within : i < length entries) (is : entry ≡ get_or entries i entry)
    (tally : Tally Held) (counts : CountsEntries (take i entries) tally) where
  room_left : length (held_among (take i entries)) + length entry.offsets.now ≤ 2 ^ 32
  room_left =
      let held = held_few (take i entries) in
      let split = ap list_bytes (split_at entries i entry within) ∙ sum_by-append list_long (take i entries) (get_or entries i entry ∷ drop (suc i) entries) in
      let one = sum_by-cons list_long (get_or entries i entry) (drop (suc i) entries) in
      let same = ap list_long is in
      omega (arith, held, few, split, one, same)

  -- there is room for the references of the next entry
  pub room_for_entry : HasRoom tally (length entry.offsets.now)
  room_for_entry = (held_among (take i entries), counts, room_left)

  -- and once they are counted, the tally counts one more entry
  pub counts_next : (new : Tally Held) → CountsObjects tally entry.body.now entry.offsets.now new → CountsEntries (take (i + 1) entries) new
  counts_next new more =
      let taken : take (i + 1) entries ≡ take i entries ++ entry ∷ [] =
      take_more entries i entry within ∙ ap (λ (e : Entry). take i entries ++ e ∷ []) (sym is) in
      let joined : held_among (take (i + 1) entries) ≡ held_among (take i entries) ++ filter_map reference_of (good_in entry) =
      ap held_among taken
      ∙ ap (filter_map reference_of) (flat_map-append good_in (take i entries) (entry ∷ []) ∙ ap (λ os. flat_map good_in (take i entries) ++ os) (append-nil (good_in entry)))
      ∙ filter_map-append reference_of (flat_map good_in (take i entries)) (good_in entry) in
      subst (CountsHeld new) (sym joined) (more (held_among (take i entries)) counts room_left)

-- ---- the events that own the attachments

-- the good objects of an attachment
abbrev good_of : Placed EntryText → List ObjectText
good_of a = (objects_of a.unit.body a.unit.offset_bytes).good

good_carried : (events : List EventRead) → flat_map good_of (carried_by events) ≡ good_objects events
good_carried [] = refl
good_carried (e ∷ events) =
    elim e.entry as (λ o. flat_map good_of (cons_option o (carried_by events))
    ≡ (option_map_or (λ (a : Placed EntryText). objects_of a.unit.body a.unit.offset_bytes) o no_objects).good ++ good_objects events) [
      | None ↦ good_carried events
      | Some a ↦ ap (λ (t : List ObjectText). good_of a ++ t) (good_carried events)
    ]

-- entries that show the attachments of events hold what the events hold
pub held_by_events : (events : List EventRead) (entries : List Entry) → map placed_entry entries ≡ carried_by events
    → held_among entries ≡ filter_map reference_of (good_objects events)
held_by_events events entries show = ap (filter_map reference_of) (sym (flat_map-map good_of placed_entry entries) ∙ ap (flat_map good_of) show ∙ good_carried events)
