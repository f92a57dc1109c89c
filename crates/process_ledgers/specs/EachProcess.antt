-- The ledgers of a process of a capture, by its events.
use Rattle.std.specs.Prelude.{List}
use Rattle.std.specs.Ordering.{nat_cmp}
use Rattle.capture_frame.specs.declared.process.Process.{Process}
use Rattle.event_core.specs.Events.{EventRead}
use Rattle.handle_ledger.specs.Handles.{HandleLedgerSums}
use Rattle.handle_ledger.specs.Nodes.{NodeLedgerSums}
use Rattle.pending_ledger.specs.Sums.{PendingSums, RequestsSums}
use Rattle.process_ledgers.specs.declared.process_ledgers.ProcessLedgers.{ProcessLedgers}
use Rattle.process_ledgers.specs.Items.{buffer_pending_of, clear_item_of, death_item_of, handle_item_of, node_item_of, oneway_item_of, request_item_of}
use Rattle.process_ledgers.specs.Oneway.{OnewaySums}
use Rattle.process_ledgers.specs.Processes.{items_of_process}

-- the ledgers are those of this process among these events: each sums the items that it reads from the events of the
-- process
pub record AreLedgersOf (ledgers : ProcessLedgers) (events : List EventRead) (process : Process) : Type 0 where
  pub handles : HandleLedgerSums ledgers.handles.own (items_of_process handle_item_of process events)
  pub nodes : NodeLedgerSums ledgers.nodes.own (items_of_process node_item_of process events)
  pub buffers : PendingSums nat_cmp ledgers.buffers.own (items_of_process buffer_pending_of process events)
  pub requests : RequestsSums ledgers.requests.own (items_of_process request_item_of process events)
  pub deaths : PendingSums nat_cmp ledgers.deaths.own (items_of_process death_item_of process events)
  pub clears : PendingSums nat_cmp ledgers.clears.own (items_of_process clear_item_of process events)
  pub oneway : OnewaySums ledgers.oneway.own (items_of_process oneway_item_of process events)
