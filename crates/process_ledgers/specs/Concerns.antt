-- Which events concern a ledger of their process.
use Rattle.std.specs.Prelude.{Bool, true, false, if◌then◌else◌, Option, Some, None}
use Rattle.binder_code.specs.declared.record_kind.Kind.{Kind}
use Rattle.binder_code.specs.declared.record_kind.Kind.TheVariants.{BcTransaction, BcTransactionSg, BcFreeBuffer, BcIncrefs, BcAcquire, BcRelease, BcDecrefs, BcIncrefsDone, BcAcquireDone, BcRequestDeathNotification, BcClearDeathNotification, BcDeadBinderDone, BrTransaction, BrTransactionSecCtx, BrReply, BrIncrefs, BrAcquire, BrRelease, BrDecrefs, BrDeadBinder, BrClearDeathNotificationDone}
use Rattle.capture_frame.specs.declared.process.Process.{Process}
use Rattle.event_core.specs.Events.{process_of}
use Rattle.event_core.specs.Reading.{event_text}
use Rattle.event_core.specs.declared.event.Event.{Event}

-- whether records of this kind can be items of some ledger of their process
abbrev pub concerns : Kind → Bool
concerns BcTransaction = true
concerns BcTransactionSg = true
concerns BcFreeBuffer = true
concerns BcIncrefs = true
concerns BcAcquire = true
concerns BcRelease = true
concerns BcDecrefs = true
concerns BcIncrefsDone = true
concerns BcAcquireDone = true
concerns BcRequestDeathNotification = true
concerns BcClearDeathNotification = true
concerns BcDeadBinderDone = true
concerns BrTransaction = true
concerns BrTransactionSecCtx = true
concerns BrReply = true
concerns BrIncrefs = true
concerns BrAcquire = true
concerns BrRelease = true
concerns BrDecrefs = true
concerns BrDeadBinder = true
concerns BrClearDeathNotificationDone = true
concerns _ = false

-- the event under its process, if its kind concerns a ledger
abbrev pub concerned : Event → Option (Process × Event)
concerned event = if concerns event.kind then Some (process_of (event_text event), event) else None
