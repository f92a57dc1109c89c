-- Oneway transactions, and how many bytes of data they say that they have (docs/REPORT.md).
use Rattle.std.specs.Prelude.{ℕ, ◌%◌, ◌==◌, if◌then◌else◌, Bool, List, Option, Some, None}
use Rattle.binder_code.specs.declared.record_kind.Kind.{Kind}
use Rattle.binder_code.specs.declared.record_kind.Kind.TheVariants.{BcTransaction, BcTransactionSg, BrTransaction, BrTransactionSecCtx}
use Rattle.transaction_view.specs.Transaction.{target_handle, flags, data_size}
use Rattle.event_core.specs.declared.oneway.OnewayKey.{OnewayKey}
use Rattle.event_core.specs.declared.oneway.OnewayKey.TheVariants.{Sent, Received}

-- whether the flags of a transaction have `TF_ONE_WAY`, their lowest bit
-- (`linux/android/binder.h`, `enum transaction_flags`)
abbrev pub has_one_way : List ℕ → Bool
has_one_way payload = flags payload % 2 == 1

-- a transaction counted under this key, with its data_size; None if it is not oneway
abbrev pub oneway_under : OnewayKey → List ℕ → Option (OnewayKey × ℕ)
oneway_under key payload = if has_one_way payload then Some (key, data_size payload) else None

-- a oneway transaction, counted as sent to its target handle or as received; None for a reply and every other record
abbrev pub oneway_item : Kind → List ℕ → Option (OnewayKey × ℕ)
oneway_item BcTransaction payload = oneway_under (Sent (target_handle payload)) payload
oneway_item BcTransactionSg payload = oneway_under (Sent (target_handle payload)) payload
oneway_item BrTransaction payload = oneway_under Received payload
oneway_item BrTransactionSecCtx payload = oneway_under Received payload
oneway_item _ payload = None
