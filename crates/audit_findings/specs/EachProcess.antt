-- The processes of a capture, each with its ledgers.
use Rattle.std.specs.Prelude.{◌≡◌, List, map, ⊤}
use Rattle.std.specs.Map.{lookup, keys_of}
use Rattle.std.specs.Option.{unwrap_or}
use Rattle.capture_frame.specs.Envelope.{PlacedFrame}
use Rattle.capture_frame.specs.Process.{same_process}
use Rattle.capture_frame.specs.declared.process.Process.{Process}
use Rattle.event_core.specs.Events.{events_of_frames}
use Rattle.summary_law.specs.InOrder.{SumsInOrder}
use Rattle.summary_law.specs.declared.nothing.Nothing.{Nothing}
use Rattle.process_ledgers.specs.EachProcess.{AreLedgersOf}
use Rattle.process_ledgers.specs.Processes.{process_of_placed, processes_of}
use Rattle.process_ledgers.specs.declared.process_ledgers.ProcessLedgers.{ProcessLedgers}
use Rattle.audit_findings.specs.declared.processes.Processes.{Processes}

-- the ledgers of this process, or those of no event if it has none
abbrev pub ledgers_in : Processes → Process → ProcessLedgers
ledgers_in processes process = unwrap_or (lookup (same_process process) processes.own.now.entries.entries) processes.none.now

-- the process of a frame, as an item of the order
abbrev pub order_item : PlacedFrame → Process × ⊤
order_item frame = (process_of_placed frame, tt)

-- the keys are the processes of these frames, in the order of their first frames
abbrev pub SumsOrder : List (Process × Nothing) → List PlacedFrame → Type 0
SumsOrder entries frames =
    SumsInOrder same_process (λ (v : Nothing) (items : List ⊤). ⊤) entries (map order_item frames)

-- these are the processes of these frames, in the order of their first frames, each with its ledgers
pub record SumsEach (processes : Processes) (frames : List PlacedFrame) : Type 0 where
  pub order : keys_of processes.order.now.entries.entries ≡ processes_of frames
  pub each : (process : Process) → AreLedgersOf (ledgers_in processes process) (events_of_frames frames) process
