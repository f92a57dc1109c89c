-- Deaths that the driver reports to a process, and that the process acknowledges (docs/REPORT.md).
use Rattle.std.specs.Prelude.{ℕ, List, Option, Some, None}
use Rattle.std.specs.Option.{option_map}
use Rattle.binder_code.specs.declared.record_kind.Kind.{Kind}
use Rattle.binder_code.specs.declared.record_kind.Kind.TheVariants.{BrDeadBinder, BcDeadBinderDone}
use Rattle.event_core.specs.declared.pending.KeyEvent.{KeyEvent}
use Rattle.event_core.specs.declared.pending.PendingChange.{PendingChange}
use Rattle.event_core.specs.declared.pending.PendingChange.TheVariants.{Open, Close}
use Rattle.event_core.specs.Requests.{cookie_alone}

-- what a record of this kind does to its cookie: BR_DEAD_BINDER opens it, and BC_DEAD_BINDER_DONE, which acknowledges
-- that, closes it; other kinds do nothing
abbrev pub death_change : Kind → Option PendingChange
death_change BrDeadBinder = Some Open
death_change BcDeadBinderDone = Some Close
death_change _ = None

-- the cookie in the payload, and its open or close by a record at this place; None for other kinds
abbrev pub death_item : ℕ → Kind → List ℕ → Option (ℕ × KeyEvent)
death_item place kind payload =
    option_map (λ change. (cookie_alone payload, record { place = place; change = change })) (death_change kind)
