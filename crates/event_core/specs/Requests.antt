-- Requests for a death notification: what a record does to those of its process (docs/REPORT.md).
use Rattle.std.specs.Prelude.{ℕ, List, Option, Some, None}
use Rattle.std.specs.Option.{option_map}
use Rattle.binder_code.specs.declared.record_kind.Kind.{Kind}
use Rattle.binder_code.specs.declared.record_kind.Kind.TheVariants.{BcRequestDeathNotification, BcClearDeathNotification, BrDeadBinder}
use Rattle.capture_frame.specs.Envelope.{number_at}
use Rattle.event_core.specs.declared.request.RequestKey.{RequestKey}
use Rattle.event_core.specs.declared.request.RequestItem.{RequestItem}
use Rattle.event_core.specs.declared.request.RequestChange.{RequestChange}
use Rattle.event_core.specs.declared.request.RequestChange.TheVariants.{Request, Clear, Dead}

-- the handle and the cookie of a payload (`linux/android/binder.h`, `struct binder_handle_cookie`, which is packed)
abbrev pub request_key : List ℕ → RequestKey
request_key payload = record { handle = number_at 4 0 payload; cookie = number_at 8 4 payload }

-- the cookie of a payload that has nothing else
abbrev pub cookie_alone : List ℕ → ℕ
cookie_alone payload = number_at 8 0 payload

-- what a record does to the requests of its process: BC_REQUEST_DEATH_NOTIFICATION makes one,
-- BC_CLEAR_DEATH_NOTIFICATION takes back those with its handle and its cookie, and BR_DEAD_BINDER answers those with
-- its cookie; other kinds do nothing
abbrev pub request_change : Kind → List ℕ → Option RequestChange
request_change BcRequestDeathNotification payload = Some (Request (request_key payload))
request_change BcClearDeathNotification payload = Some (Clear (request_key payload))
request_change BrDeadBinder payload = Some (Dead (cookie_alone payload))
request_change _ payload = None

-- what a record at this place does to the requests of its process
abbrev pub request_item : ℕ → Kind → List ℕ → Option RequestItem
request_item place kind payload =
    option_map (λ change. record { place = place; change = change }) (request_change kind payload)
