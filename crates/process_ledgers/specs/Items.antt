-- The item that an event is to each ledger of its process, if any (docs/REPORT.md).
use Rattle.std.specs.Prelude.{◌≡◌, ℕ, Option, Some}
use Rattle.std.specs.Option.{option_map}
use Rattle.event_core.specs.Buffers.{buffer_item, buffer_pending}
use Rattle.event_core.specs.Clears.{clear_item}
use Rattle.event_core.specs.Deaths.{death_item}
use Rattle.event_core.specs.Events.{EventRead}
use Rattle.event_core.specs.Handles.{HandleItem, handle_item}
use Rattle.event_core.specs.Nodes.{NodeItem, node_item}
use Rattle.event_core.specs.Oneway.{oneway_item}
use Rattle.event_core.specs.Requests.{request_item}
use Rattle.event_core.specs.declared.buffer.BufferItem.{BufferItem}
use Rattle.event_core.specs.declared.oneway.OnewayKey.{OnewayKey}
use Rattle.event_core.specs.declared.pending.KeyEvent.{KeyEvent}
use Rattle.event_core.specs.declared.request.RequestItem.{RequestItem}

-- the change of a handle's counts that an event is
abbrev pub handle_item_of : EventRead → Option HandleItem
handle_item_of e = handle_item e.kind e.payload

-- the change of a node's counts, and of what is due, that an event is
abbrev pub node_item_of : EventRead → Option NodeItem
node_item_of e = node_item e.kind e.payload

-- the delivery or the free that an event is
abbrev pub buffer_item_of : EventRead → Option BufferItem
buffer_item_of e = buffer_item e.place e.kind e.payload

-- what an event does to the address of a buffer: a delivery opens it, and a free closes it
abbrev pub buffer_pending_of : EventRead → Option (ℕ × KeyEvent)
buffer_pending_of e = option_map buffer_pending (buffer_item_of e)

-- the request, the clear or the death that an event is
abbrev pub request_item_of : EventRead → Option RequestItem
request_item_of e = request_item e.place e.kind e.payload

-- the death or the acknowledgement that an event is
abbrev pub death_item_of : EventRead → Option (ℕ × KeyEvent)
death_item_of e = death_item e.place e.kind e.payload

-- the clear or the confirmation that an event is
abbrev pub clear_item_of : EventRead → Option (ℕ × KeyEvent)
clear_item_of e = clear_item e.place e.kind e.payload

-- the oneway transaction, sent or received, that an event is
abbrev pub oneway_item_of : EventRead → Option (OnewayKey × ℕ)
oneway_item_of e = oneway_item e.kind e.payload

-- each item that is read from an event has the place of the event
abbrev pub KeepsPlace : {I : Type 0} → (I → ℕ) → (EventRead → Option I) → Type 0
KeepsPlace {I} place read = (e : EventRead) (i : I) → read e ≡ Some i → place i ≡ e.place
