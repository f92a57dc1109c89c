-- The ledgers of one process, by its events.
use Rattle.std.specs.Prelude.{ℕ, List, Option}
use Rattle.std.specs.Ordering.{nat_cmp}
use Rattle.event_core.specs.Events.{EventRead}
use Rattle.event_core.specs.Reading.{event_text}
use Rattle.event_core.specs.declared.event.Event.{Event}
use Rattle.handle_ledger.specs.Handles.{HandleLedgerSums}
use Rattle.handle_ledger.specs.Nodes.{NodeLedgerSums}
use Rattle.pending_ledger.specs.Sums.{PendingSums, RequestsSums}
use Rattle.summary_law.specs.Fed.{SumsPicked}
use Rattle.summary_law.specs.Fits.{IsPlaced}
use Rattle.process_ledgers.specs.declared.process_ledgers.ProcessLedgers.{ProcessLedgers}
use Rattle.process_ledgers.specs.Items.{buffer_pending_of, clear_item_of, death_item_of, handle_item_of, node_item_of, oneway_item_of, request_item_of}
use Rattle.process_ledgers.specs.Oneway.{OnewaySums}

-- the place of an event
abbrev pub event_place : Event → ℕ
event_place event = event.place

-- at most 2^32 events, whose places rise
abbrev pub ArePlaced : List Event → Type 0
ArePlaced events = IsPlaced event_place events

-- the item that is picked from an event of the capture, by what a ledger reads of it
abbrev pub picked_by : {I : Type 0} → (EventRead → Option I) → Event → Option I
picked_by read event = read (event_text event)

-- each ledger sums the items that it picks from these events
pub record SumsProcess (ledgers : ProcessLedgers) (events : List Event) : Type 0 where
  pub handles : SumsPicked (picked_by handle_item_of) HandleLedgerSums ledgers.handles.own events
  pub nodes : SumsPicked (picked_by node_item_of) NodeLedgerSums ledgers.nodes.own events
  pub buffers : SumsPicked (picked_by buffer_pending_of) (PendingSums nat_cmp) ledgers.buffers.own events
  pub requests : SumsPicked (picked_by request_item_of) RequestsSums ledgers.requests.own events
  pub deaths : SumsPicked (picked_by death_item_of) (PendingSums nat_cmp) ledgers.deaths.own events
  pub clears : SumsPicked (picked_by clear_item_of) (PendingSums nat_cmp) ledgers.clears.own events
  pub oneway : SumsPicked (picked_by oneway_item_of) OnewaySums ledgers.oneway.own events
