-- The section `objects`: the good objects of each sort, and the bad ones (docs/REPORT.md).
use Rattle.std.specs.Prelude.{◌==◌, ℕ, Bool, List, [], ◌∷◌, count_by, Option, Some, None}
use Rattle.std.specs.List.{flat_map, filter_map}
use Rattle.std.specs.Option.{option_map, option_map_or}
use Rattle.object_view.specs.declared.bad_object.BadObject.{BadObject}
use Rattle.object_view.specs.declared.sort.Sort.{Sort}
use Rattle.object_view.specs.declared.sort.Sort.TheVariants.{Binder, WeakBinder, Handle, WeakHandle, Fd, Fda, Ptr}
use Rattle.object_view.specs.Fields.{sort_number}
use Rattle.object_view.specs.Objects.{ObjectText, Objects, no_objects, objects_of}
use Rattle.capture_frame.specs.Units.{Placed}
use Rattle.transaction_view.specs.Attachments.{EntryText}
use Rattle.event_core.specs.Events.{EventRead}
use Rattle.audit_findings.specs.declared.objects.BadRow.{BadRow}
use Rattle.audit_findings.specs.declared.sort_counts.SortCounts.{SortCounts}

-- what the objects of an event's attachment come to, by its data and its list of offsets; an event without an
-- attachment has none
abbrev pub objects_in : EventRead → Objects
objects_in e = option_map_or (λ (a : Placed EntryText). objects_of a.unit.body a.unit.offset_bytes) e.entry no_objects

-- whether two sorts are the same
abbrev pub same_sort : Sort → Sort → Bool
same_sort sort other = sort_number sort == sort_number other

-- the count of a sort
abbrev pub sort_count : SortCounts → Sort → ℕ
sort_count counts Binder = counts.binder
sort_count counts WeakBinder = counts.weak_binder
sort_count counts Handle = counts.handle
sort_count counts WeakHandle = counts.weak_handle
sort_count counts Fd = counts.fd
sort_count counts Fda = counts.fda
sort_count counts Ptr = counts.ptr

-- how many of these objects are of the sort
abbrev pub times_of : Sort → List ObjectText → ℕ
times_of sort objects = count_by (λ o. same_sort o.sort sort) objects

-- the good objects of these events' attachments, in order
abbrev pub good_objects : List EventRead → List ObjectText
good_objects events = flat_map (λ e. (objects_in e).good) events

-- the bad object of an event's attachment, if there is one, with the event as its owner
abbrev pub bad_of : EventRead → Option (BadRow EventRead)
bad_of e = option_map (λ bad. record { owner = e; bad = bad }) (objects_in e).bad

-- the bad objects of these events' attachments, in order
abbrev pub bad_objects : List EventRead → List (BadRow EventRead)
bad_objects events = filter_map bad_of events

-- the counts of the head: how many of these objects are of each sort
abbrev pub sort_counts : List ObjectText → SortCounts
sort_counts objects = record {
  binder = times_of Binder objects;
  weak_binder = times_of WeakBinder objects;
  handle = times_of Handle objects;
  weak_handle = times_of WeakHandle objects;
  fd = times_of Fd objects;
  fda = times_of Fda objects;
  ptr = times_of Ptr objects;
}

-- the bad object of an owner's attachment, if it has one, as a list
abbrev pub owned_by : EventRead → Option BadObject → List (BadRow EventRead)
owned_by owner None = []
owned_by owner (Some bad) = record { owner = owner; bad = bad } ∷ []
