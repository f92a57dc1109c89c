-- The reference that a delivered buffer holds for one of its objects (`linux/android/binder.h`, flat_binder_object).
use Rattle.std.specs.Prelude.{ℕ, Bool, true, false, List, Option, Some, None}
use Rattle.transaction_view.specs.Envelope.{number_at}
use Rattle.object_view.specs.declared.sort.Sort.{Sort}
use Rattle.object_view.specs.declared.sort.Sort.TheVariants.{Handle, WeakHandle}

-- the handle of a HANDLE or a WEAK_HANDLE, and whether it is a WEAK_HANDLE; None for every other sort
abbrev pub held_of : Sort → List ℕ → Option (ℕ × Bool)
held_of Handle bytes = Some (number_at 4 8 bytes, false)
held_of WeakHandle bytes = Some (number_at 4 8 bytes, true)
held_of _ bytes = None
