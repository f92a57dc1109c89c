-- The rows of the raw tables call, send and delivery (docs/DATABASE.md).
use Rattle.std.specs.Prelude.{◌≡◌, ℕ, ◌-◌, ◌||◌, if◌then◌else◌, not, Bool, true, false, Option, Some, None, option_map}
use Rattle.std.specs.Prelude.{List, [], ◌∷◌, slice_get}
use Rattle.std.specs.List.{flat_map}
use Rattle.binder_code.specs.declared.record_kind.Kind.{Kind}
use Rattle.binder_code.specs.declared.record_kind.Kind.TheVariants.{BrReply}
use Rattle.call_stacks.specs.declared.verdict.Verdict.{Verdict}
use Rattle.call_stacks.specs.declared.verdict.Verdict.TheVariants.{Answered}
use Rattle.listing_tables.specs.Calls.{closer_place, verdict_number}
use Rattle.listing_tables.specs.Columns.{bit, column_of, number_at}
use Rattle.listing_tables.specs.Numbered.{thing_at}
use Rattle.listing_tables.specs.declared.buffers.Buffer.{Buffer}
use Rattle.listing_tables.specs.declared.calls.Call.{Call}
use Rattle.listing_tables.specs.declared.messages.Detail.{Detail}
use Rattle.listing_tables.specs.declared.messages.Detail.TheVariants.{Sent as IsSent, Delivered, Failed}
use Rattle.listing_tables.specs.declared.messages.Message.{Message}
use Rattle.listing_tables.specs.declared.messages.Sent.{Sent}
use Rattle.listing_tables.specs.declared.messages.Settled.{Settled}
use Rattle.listing_tables.specs.declared.messages.Settled.TheVariants.{Waiting, Confirmed, Refused}
use Rattle.listing_tables.specs.declared.rows.Column.{Column}
use Rattle.listing_tables.specs.declared.rows.Column.TheVariants.{Number}

-- ---- call

-- the index among the messages of the closer of a call
abbrev pub closer_message : Call → Option ℕ
closer_message call = option_map (λ closer. closer.message) call.closer

-- how many sequences after its opener a call is closed
abbrev pub closed_after : List Message → Call → ℕ → Option ℕ
closed_after list call sequence =
    option_map (λ (closer : Message). closer.sequence - sequence) (thing_at list (closer_message call))

-- the row of a call with this opener
abbrev pub call_columns : Call → Message → Option ℕ → List Column
call_columns call opener duration =
    Number call.place ∷ Number opener.sequence ∷ Number (number_at opener.utid.index) ∷ Number (bit call.served)
    ∷ Number call.depth ∷ column_of call.parent ∷ Number (verdict_number call.verdict) ∷ column_of (closer_place call)
    ∷ column_of duration ∷ []

-- a row is that of a call whose opener and whose closer are among these messages
pub record IsCallRow (list : List Message) (call : Call) (row : List Column) : Type 0 where
  pub opener : Message
  pub opens : slice_get list call.opener ≡ Some opener
  pub are : row ≡ call_columns call opener (closed_after list call opener.sequence)

-- ---- send

-- the place of a message, if there is one
abbrev pub place_of_message : Option Message → Option ℕ
place_of_message message = option_map (λ (it : Message). it.place) message

-- the place of the record that confirms a send, and of the one that refuses it
abbrev pub confirmed_by : Settled → Option ℕ
confirmed_by Waiting = None
confirmed_by (Confirmed place) = Some place
confirmed_by (Refused place) = None

abbrev pub refused_by : Settled → Option ℕ
refused_by Waiting = None
refused_by (Confirmed place) = None
refused_by (Refused place) = Some place

-- this number, if a place is known
abbrev pub if_known : Option ℕ → ℕ → Option ℕ
if_known known number = option_map (λ place. number) known

-- the row of a send whose delivery is at this place, if one is found
abbrev pub send_columns : Message → Sent → Option ℕ → List Column
send_columns message sent partner =
    Number message.place ∷ Number message.sequence ∷ Number (number_at message.utid.index)
    ∷ column_of (option_map number_at sent.generation) ∷ column_of (confirmed_by sent.settled)
    ∷ column_of (refused_by sent.settled) ∷ column_of partner ∷ column_of (if_known partner (bit sent.certain))
    ∷ column_of (if_known partner sent.fits) ∷ []

-- the row of a message among these, if it is a send
abbrev pub send_row : List Message → Message → Detail → List (List Column)
send_row list message (IsSent sent) =
    send_columns message sent (place_of_message (thing_at list message.partner)) ∷ []
send_row list message (Delivered index) = []
send_row list message Failed = []

-- the rows of all sends among these messages, in their order
abbrev pub send_rows : List Message → List (List Column)
send_rows list = flat_map (λ (message : Message). send_row list message message.detail) list

-- ---- delivery

-- how many sequences after a delivery its buffer is freed
abbrev pub freed_after : Buffer → ℕ → Option ℕ
freed_after buffer sequence = option_map (λ place. buffer.freed_in - sequence) buffer.freed

-- whether a kind is that of a reply that a thread gets
abbrev pub is_answer : Kind → Bool
is_answer BrReply = true
is_answer _ = false

-- whether a call has got its reply
abbrev pub has_answer : Verdict → Bool
has_answer Answered = true
has_answer _ = false

-- the place of a call that a delivery of this kind opens, or that it answers
abbrev pub place_for : Kind → Option Call → Option ℕ
place_for kind None = None
place_for kind (Some call) = if not (is_answer kind) || has_answer call.verdict then Some call.place else None

-- the row of a delivery with this buffer
abbrev pub delivery_columns : Message → Buffer → Option ℕ → Option ℕ → List Column
delivery_columns message buffer call partner =
    Number buffer.place ∷ Number message.sequence ∷ Number (number_at message.utid.index) ∷ column_of buffer.freed
    ∷ column_of (freed_after buffer message.sequence) ∷ column_of call ∷ column_of partner ∷ Number buffer.held ∷ []

-- the row of a message among these with this buffer
abbrev pub buffer_row : List Message → List Call → Message → Option Buffer → List (List Column)
buffer_row list calls message None = []
buffer_row list calls message (Some buffer) =
    delivery_columns message buffer (place_for message.kind (thing_at calls message.call))
    (place_of_message (thing_at list message.partner)) ∷ []

-- the row of a message among these, if it is a delivery
abbrev pub delivery_row : List Message → List Buffer → List Call → Message → Detail → List (List Column)
delivery_row list buffers calls message (IsSent sent) = []
delivery_row list buffers calls message (Delivered index) = buffer_row list calls message (slice_get buffers index)
delivery_row list buffers calls message Failed = []

-- the rows of all deliveries among these messages, in their order
abbrev pub delivery_rows : List Message → List Buffer → List Call → List (List Column)
delivery_rows list buffers calls =
    flat_map (λ (message : Message). delivery_row list buffers calls message message.detail) list
