-- Requests that a process takes back, and the confirmations of the driver (docs/REPORT.md).
use Rattle.std.specs.Prelude.{ℕ, List, Option, Some, None}
use Rattle.binder_code.specs.declared.record_kind.Kind.{Kind}
use Rattle.binder_code.specs.declared.record_kind.Kind.TheVariants.{BcClearDeathNotification, BrClearDeathNotificationDone}
use Rattle.event_core.specs.declared.pending.KeyEvent.{KeyEvent}
use Rattle.event_core.specs.declared.pending.PendingChange.TheVariants.{Open, Close}
use Rattle.event_core.specs.Requests.{request_key, cookie_alone}

-- the cookie of a clear, whose payload also has a handle, or that of a confirmation
abbrev pub clear_cookie : Kind → List ℕ → ℕ
clear_cookie BcClearDeathNotification payload = (request_key payload).cookie
clear_cookie _ payload = cookie_alone payload

-- what a record at this place does to its cookie: BC_CLEAR_DEATH_NOTIFICATION opens it, and
-- BR_CLEAR_DEATH_NOTIFICATION_DONE, which confirms that, closes it; other kinds do nothing
abbrev pub clear_item : ℕ → Kind → List ℕ → Option (ℕ × KeyEvent)
clear_item place BcClearDeathNotification payload =
    Some (clear_cookie BcClearDeathNotification payload, record { place = place; change = Open })
clear_item place BrClearDeathNotificationDone payload =
    Some (clear_cookie BrClearDeathNotificationDone payload, record { place = place; change = Close })
clear_item place _ payload = None
