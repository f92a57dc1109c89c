-- References that a process holds by handle: what a record does to the two counts of a handle (docs/REPORT.md).
use Rattle.std.specs.Prelude.{ℕ, List, Option, Some, None}
use Rattle.std.specs.Option.{option_map}
use Rattle.binder_code.specs.declared.record_kind.Kind.{Kind}
use Rattle.binder_code.specs.declared.record_kind.Kind.TheVariants.{BcAcquire, BcRelease, BcIncrefs, BcDecrefs}
use Rattle.capture_frame.specs.Envelope.{number_at}
use Rattle.event_core.specs.declared.handle.HandleChange.{HandleChange}
use Rattle.event_core.specs.declared.handle.HandleChange.TheVariants.{Raise, Lower}
use Rattle.event_core.specs.declared.strength.Strength.{Strength}
use Rattle.event_core.specs.declared.strength.Strength.TheVariants.{Strong, Weak}

-- which count of its handle a record of this kind changes, and how: BC_ACQUIRE raises the strong count and BC_RELEASE
-- lowers it, BC_INCREFS raises the weak count and BC_DECREFS lowers it (`linux/android/binder.h`,
-- `binder_driver_command_protocol`)
abbrev pub handle_effect : Kind → Option (Strength × HandleChange)
handle_effect BcAcquire = Some (Strong, Raise)
handle_effect BcRelease = Some (Strong, Lower)
handle_effect BcIncrefs = Some (Weak, Raise)
handle_effect BcDecrefs = Some (Weak, Lower)
handle_effect _ = None

-- a handle, and which of its counts a record changes, and how
abbrev pub HandleItem : Type 0
HandleItem = ℕ × (Strength × HandleChange)

-- the change that a record makes to the handle in its payload; None for other kinds
abbrev pub handle_item : Kind → List ℕ → Option HandleItem
handle_item kind payload = option_map (λ effect. (number_at 4 0 payload, effect)) (handle_effect kind)
