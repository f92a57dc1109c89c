-- Buffers that the driver delivers to a process, and that the process frees (docs/REPORT.md).
use Rattle.std.specs.Prelude.{ℕ, List, Option, Some, None}
use Rattle.binder_code.specs.declared.record_kind.Kind.{Kind}
use Rattle.binder_code.specs.declared.record_kind.Kind.TheVariants.{BcFreeBuffer, BrTransaction, BrTransactionSecCtx, BrReply}
use Rattle.capture_frame.specs.Envelope.{number_at}
use Rattle.transaction_view.specs.Transaction.{buffer, data_size}
use Rattle.event_core.specs.declared.buffer.BufferItem.{BufferItem}
use Rattle.event_core.specs.declared.buffer.BufferItem.TheVariants.{Delivery, Free}
use Rattle.event_core.specs.declared.pending.KeyEvent.{KeyEvent}
use Rattle.event_core.specs.declared.pending.PendingChange.TheVariants.{Open, Close}

-- the delivery by a transaction or reply at this place, at the address in its `buffer` and with its data_size
abbrev pub delivery : ℕ → Kind → List ℕ → BufferItem
delivery place kind payload = Delivery place (buffer payload) (data_size payload) kind

-- the address that a free names: its payload
abbrev pub freed_address : List ℕ → ℕ
freed_address payload = number_at 8 0 payload

-- what a record at this place does to a buffer of its process: BR_TRANSACTION, BR_TRANSACTION_SEC_CTX and BR_REPLY
-- deliver one, and BC_FREE_BUFFER frees the one at its address; other kinds do nothing
abbrev pub buffer_item : ℕ → Kind → List ℕ → Option BufferItem
buffer_item place BrTransaction payload = Some (delivery place BrTransaction payload)
buffer_item place BrTransactionSecCtx payload = Some (delivery place BrTransactionSecCtx payload)
buffer_item place BrReply payload = Some (delivery place BrReply payload)
buffer_item place BcFreeBuffer payload = Some (Free place (freed_address payload))
buffer_item place _ payload = None

-- a delivery opens its address, and a free closes it
abbrev pub buffer_pending : BufferItem → ℕ × KeyEvent
buffer_pending (Delivery place address size kind) = (address, record { place = place; change = Open })
buffer_pending (Free place address) = (address, record { place = place; change = Close })
