-- The processes of a capture, and the events of each of them (docs/REPORT.md).
use Rattle.std.specs.Prelude.{List, map, Option}
use Rattle.std.specs.List.{filter_map}
use Rattle.capture_frame.specs.declared.process.Process.{Process}
use Rattle.capture_frame.specs.Process.{same_process, process_of_frame}
use Rattle.capture_frame.specs.Envelope.{PlacedFrame}
use Rattle.event_core.specs.Events.{EventRead, process_of}
use Rattle.summary_law.specs.InOrder.{firsts}
use Rattle.summary_law.specs.Readings.{with_key}

-- the process of a frame that has its place
abbrev pub process_of_placed : PlacedFrame → Process
process_of_placed frame = process_of_frame frame.unit

-- the processes of these frames, each once, in the order of their first frames
abbrev pub processes_of : List PlacedFrame → List Process
processes_of frames = firsts same_process (map process_of_placed frames)

-- the events of this process, in their order
abbrev pub events_in : Process → List EventRead → List EventRead
events_in process events = with_key same_process process_of process events

-- the items that are read from the events of this process, in their order
abbrev pub items_of_process : {I : Type 0} → (EventRead → Option I) → Process → List EventRead → List I
items_of_process read process events = filter_map read (events_in process events)
