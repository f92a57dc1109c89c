-- The objects of the attachments of a list of events, and of a list that follows it.
use Rattle.std.proofs.Common.{◌≡◌, ℕ, ◌+◌, ◌*◌, ◌^◌, ◌<◌, ◌≤◌, List, [], ◌∷◌, ◌++◌, length, map, All, Option, Some, None, refl, sym, ap, ◌∙◌, length-append, arith}
use Rattle.std.specs.List.{cons_option, flat_map}
use Rattle.std.specs.Option.{option_map, option_map_or}
use Rattle.std.proofs.lemmas.Grind.{flat_map-append}
use Rattle.std.proofs.lemmas.List.{append-nil, map-append}
use Rattle.std.proofs.lemmas.List.Concat.{flat_map-cons}
use Rattle.std.proofs.lemmas.List.Elements.{All-head, All-tail, filter_map-append}
use Rattle.object_view.specs.declared.bad_object.BadObject.{BadObject}
use Rattle.object_view.specs.declared.sort.Sort.{Sort}
use Rattle.object_view.specs.declared.sort.Sort.TheVariants.{Binder, WeakBinder, Handle, WeakHandle, Fd, Fda, Ptr}
use Rattle.object_view.specs.Objects.{ObjectText, Objects, no_objects, objects_of}
use Rattle.object_view.proofs.ObjectLaws.{objects_short}
use Rattle.transaction_view.specs.declared.entry.Entry.{Entry}
use Rattle.event_core.specs.declared.event.Event.{Event}
use Rattle.capture_frame.specs.Units.{Placed}
use Rattle.transaction_view.specs.Attachments.{EntryText}
use Rattle.transaction_view.specs.State.{placed_entry}
use Rattle.event_core.specs.Events.{EventRead}
use Rattle.event_core.specs.Reading.{event_text}
use Rattle.audit_findings.specs.declared.objects.BadRow.{BadRow}
use Rattle.audit_findings.specs.declared.objects.ObjectLedger.{ObjectLedger}
use Rattle.audit_findings.specs.declared.sort_counts.SortCounts.{SortCounts}
use Rattle.audit_findings.specs.Kept.{bad_at_place}
use Rattle.audit_findings.specs.Ledgers.{SumsObjects, AreFewEvents, offset_bytes_of}
use Rattle.audit_findings.specs.Objects.{objects_in, sort_count, times_of, sort_counts, good_objects, bad_of, bad_objects, owned_by}
use Rattle.audit_findings.proofs.ObjectWalk.{times_of-append, times_of-short}

-- the good objects of an event's attachment
abbrev good_in : EventRead → List ObjectText
good_in e = (objects_in e).good

pub good_objects-append : (events more : List EventRead) → good_objects (events ++ more) ≡ good_objects events ++ good_objects more
good_objects-append events more = flat_map-append good_in events more

bad_objects-append : (events more : List EventRead) → bad_objects (events ++ more) ≡ bad_objects events ++ bad_objects more
bad_objects-append events more = filter_map-append bad_of events more

-- the ledger of events, with those after them added
pub objects_more : (old new : ObjectLedger) (events more : List EventRead) → SumsObjects old events
    → ((sort : Sort) → sort_count new.counts sort ≡ sort_count old.counts sort + times_of sort (good_objects more))
    → new.bad.items ≡ old.bad.items ++ map bad_at_place (bad_objects more) → SumsObjects new (events ++ more)
objects_more old new events more sums counts is = record {
  counted = λ sort.
      let parts = ap (times_of sort) (good_objects-append events more) ∙ times_of-append sort (good_objects events) (good_objects more) in
      let added = counts sort in
      let before = sums.counted sort in
      omega (arith, added, before, parts);
  kept = is ∙ ap (λ (t : List _). t ++ map bad_at_place (bad_objects more)) sums.kept
      ∙ sym (map-append bad_at_place (bad_objects events) (bad_objects more)) ∙ ap (map bad_at_place) (sym (bad_objects-append events more));
}

-- and the join of two ledgers
pub objects_joined : (first second new : ObjectLedger) (events more : List EventRead) → SumsObjects first events → SumsObjects second more
    → ((sort : Sort) → sort_count new.counts sort ≡ sort_count first.counts sort + sort_count second.counts sort)
    → new.bad.items ≡ first.bad.items ++ second.bad.items → SumsObjects new (events ++ more)
objects_joined first second new events more sums others counts is =
    objects_more first new events more sums (λ sort. counts sort ∙ ap (λ (n : ℕ). sort_count first.counts sort + n) (others.counted sort))
    (is ∙ ap (λ (t : List _). first.bad.items ++ t) others.kept)

-- ---- how many objects there are

-- the list of offsets of the event's attachment is small
abbrev HasSmall : EventRead → Type 0
HasSmall e = offset_bytes_of e < 2 ^ 32

-- an attachment has no more good objects than its list of offsets has room for
good_short : (e : EventRead) → 8 * length (good_in e) ≤ offset_bytes_of e
good_short e = by_entry e.entry
  where
    by_entry : (entry : Option (Placed EntryText))
        → 8 * length (option_map_or (λ (a : Placed EntryText). objects_of a.unit.body a.unit.offset_bytes) entry no_objects).good
        ≤ option_map_or (λ (a : Placed EntryText). length a.unit.offset_bytes) entry 0
    by_entry None = omega arith
    by_entry (Some a) = objects_short a.unit.body a.unit.offset_bytes

-- nor have the attachments of some events
all_short : (events : List EventRead) → All HasSmall events → 8 * length (flat_map good_in events) ≤ 2 ^ 32 * length events
all_short [] small = omega arith
all_short (e ∷ events) small =
    let first = good_short e in
    let bytes : offset_bytes_of e < 2 ^ 32 = All-head HasSmall e events small in
    let others = all_short events (All-tail HasSmall e events small) in
    let split = ap length (flat_map-cons good_in e events) ∙ length-append (good_in e) (flat_map good_in events) in
    omega (arith, first, bytes, others, split)

-- no sort has more than 2^61 objects
pub counts_short : (ledger : ObjectLedger) (events : List EventRead) → SumsObjects ledger events → AreFewEvents events → (sort : Sort)
    → sort_count ledger.counts sort ≤ 2 ^ 61
counts_short ledger events sums fits sort =
    let counted = sums.counted sort in
    let few = times_of-short sort (good_objects events) in
    let short = all_short events fits.1 in
    let all_few = fits.0.0 in
    omega (arith, counted, few, short, all_few)

-- ---- one attachment

owned : (e : EventRead) (bad : Option BadObject)
    → cons_option (option_map (λ (x : BadObject). let made : BadRow EventRead = record { owner = e; bad = x } in made) bad) [] ≡ owned_by e bad
owned e None = refl
owned e (Some x) = refl

module _ (e : Event) (found : Entry) (is : e.entry ≡ Some found) where
  own_objects : objects_in (event_text e) ≡ objects_of found.body.now found.offsets.now
  own_objects =
      ap (λ (o : Option Entry). option_map_or (λ (a : Placed EntryText). objects_of a.unit.body a.unit.offset_bytes) (option_map placed_entry o) no_objects) is

  pub one_good : (sort : Sort) → times_of sort (good_objects (event_text e ∷ [])) ≡ times_of sort (objects_of found.body.now found.offsets.now).good
  one_good sort = ap (times_of sort) (append-nil (good_in (event_text e)) ∙ ap (λ (o : Objects). o.good) own_objects)

  pub one_bad : (bad : Option BadObject) → bad ≡ (objects_of found.body.now found.offsets.now).bad
      → bad_objects (event_text e ∷ []) ≡ owned_by (event_text e) bad
  one_bad bad same =
      owned (event_text e) (objects_in (event_text e)).bad
      ∙ ap (owned_by (event_text e)) (ap (λ (o : Objects). o.bad) own_objects ∙ sym same)

-- if each sort has its count, the counts are those of the objects
pub counts_are : (counts : SortCounts) (objects : List ObjectText) → ((sort : Sort) → sort_count counts sort ≡ times_of sort objects)
    → counts ≡ sort_counts objects
counts_are counts objects each = λ i. record {
  binder = each Binder i;
  weak_binder = each WeakBinder i;
  handle = each Handle i;
  weak_handle = each WeakHandle i;
  fd = each Fd i;
  fda = each Fda i;
  ptr = each Ptr i;
}
