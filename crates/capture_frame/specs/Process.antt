-- The processes and the threads of a capture (docs/ENVELOPE.md).
use Rattle.std.specs.Prelude.{◌==◌, ◌&&◌, Bool}
use Rattle.capture_frame.specs.declared.process.Process.{Process}
use Rattle.capture_frame.specs.declared.process.Thread.{Thread}
use Rattle.capture_frame.specs.Envelope.{FrameText}

-- whether two processes are the same: they have the same device and the same number
abbrev pub same_process : Process → Process → Bool
same_process process other = process.device == other.device && process.number == other.number

-- whether two threads are the same: they are of the same process and have the same number
abbrev pub same_thread : Thread → Thread → Bool
same_thread thread other = same_process thread.process other.process && thread.number == other.number

-- the process of a frame, named by the frame's device and its process number together
abbrev pub process_of_frame : FrameText → Process
process_of_frame frame = record { device = frame.device; number = frame.process }
