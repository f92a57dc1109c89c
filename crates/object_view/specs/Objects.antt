-- The objects of an attachment: they begin in its data at the offsets of its list, and are read up to the first bad one
-- (docs/COMMANDS.md).
use Rattle.std.specs.Prelude.{◌==◌, ℕ, zero, suc, ◌+◌, ◌*◌, ◌/◌, ◌%◌, nat_lt, not, if◌then◌else◌, List, [], ◌∷◌, length, take, drop, Option, Some, None, Result, Ok, Err}
use Rattle.transaction_view.specs.Envelope.{number_at}
use Rattle.object_view.specs.declared.sort.Sort.{Sort}
use Rattle.object_view.specs.declared.bad_object.BadObject.{BadObject}
use Rattle.object_view.specs.declared.bad_object.Cause.{Cause}
use Rattle.object_view.specs.declared.bad_object.Cause.TheVariants.{ListLength, Misaligned, Overlap, Short, UnknownSort}
use Rattle.object_view.specs.Fields.{sort_of, sort_length}

-- an object: its offset in the data, its sort and all its bytes
pub record ObjectText : Type 0 where
  pub offset : ℕ
  pub sort : Sort
  pub bytes : List ℕ

-- the object of this sort at this offset of the data, with all the bytes that the sort has; UnknownSort if there is no
-- sort, and Short if fewer bytes are left
abbrev pub object_of : List ℕ → ℕ → Option Sort → Result ObjectText Cause
object_of body offset None = Err UnknownSort
object_of body offset (Some sort) =
    if nat_lt (length body) (offset + sort_length sort) then Err Short else
    Ok (record { offset = offset; sort = sort; bytes = take (sort_length sort) (drop offset body) })

-- the object that begins at this offset of the data, not below `end`, where the object before ends; or the first cause
-- that applies. The four bytes at the offset name its sort.
abbrev pub object_at : List ℕ → ℕ → ℕ → Result ObjectText Cause
object_at body end offset =
    if not (offset % 4 == 0) then Err Misaligned else
    if nat_lt offset end then Err Overlap else
    if nat_lt (length body) (offset + 4) then Err Short else
    object_of body offset (sort_of (number_at 4 offset body))

-- the first offset of a list, in eight bytes
abbrev pub first_offset : List ℕ → ℕ
first_offset list = number_at 8 0 list

-- the offset with this number in a list, from 0
abbrev pub offset_of : List ℕ → ℕ → ℕ
offset_of list index = first_offset (drop (8 * index) list)

-- a bad object: its number in the list, its offset and its cause
abbrev pub bad_at : ℕ → ℕ → Cause → BadObject
bad_at index offset cause = record { index = index; offset = offset; cause = cause }

-- what the objects of an attachment come to: the good ones before the first bad one, and the bad one, if any
pub record Objects : Type 0 where
  pub good : List ObjectText
  pub bad : Option BadObject

-- no more objects
abbrev pub no_objects : Objects
no_objects = record { good = []; bad = None }

-- a bad object, and no more
abbrev pub stopped : BadObject → Objects
stopped bad = record { good = []; bad = Some bad }

-- a good object, and then these
abbrev pub followed_by : ObjectText → Objects → Objects
followed_by o others = record { good = o ∷ others.good; bad = others.bad }

-- what comes of a good object or a bad one with this number and this offset, given what comes after a good one
abbrev pub first_and_others : (index offset : ℕ) → Result ObjectText Cause → (ObjectText → Objects) → Objects
first_and_others index offset (Ok o) others = followed_by o (others o)
first_and_others index offset (Err cause) others = stopped (bad_at index offset cause)

-- the objects at the `left` offsets of the list from this index on; the object before ends at `end`
abbrev pub objects_from : List ℕ → List ℕ → (left index end : ℕ) → Objects
objects_from body list zero index end = no_objects
objects_from body list (suc left) index end =
    first_and_others index (offset_of list index) (object_at body end (offset_of list index))
    (λ o. objects_from body list left (index + 1) (o.offset + sort_length o.sort))

-- The objects of this data and this list of offsets, eight bytes each. If the length of the list is no multiple of 8,
-- there is only the bad one ListLength, with number and offset 0.
abbrev pub objects_of : List ℕ → List ℕ → Objects
objects_of body list =
    if length list % 8 == 0 then objects_from body list (length list / 8) 0 0 else stopped (bad_at 0 0 ListLength)
