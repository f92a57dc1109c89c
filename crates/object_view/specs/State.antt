-- What the state of the code's reader of objects means.
use Rattle.std.specs.Prelude.{◌==◌, ℕ, ◌-◌, ◌*◌, ◌/◌, ◌%◌, ◌≤◌, if◌then◌else◌, List, length}
use Rattle.object_view.specs.declared.objects.State.{State}
use Rattle.object_view.specs.declared.objects.State.TheVariants.{At, Ended}
use Rattle.object_view.specs.declared.bad_object.Cause.TheVariants.{ListLength}
use Rattle.object_view.specs.Objects.{Objects, bad_at, no_objects, objects_from, stopped}

-- the objects that are ahead, in this data and this list
abbrev pub ahead : List ℕ → List ℕ → State → Objects
ahead body list (At index end) =
    if length list % 8 == 0 then objects_from body list (length list / 8 - index) index end
    else stopped (bad_at 0 0 ListLength)
ahead body list Ended = no_objects

-- the offsets that the reader has passed are within the list, and the objects before it are within the data
abbrev pub IsWithin : List ℕ → List ℕ → State → Type 0
IsWithin body list (At index end) = (8 * index ≤ length list) × (end ≤ length body)
IsWithin body list Ended = Unit {0}
