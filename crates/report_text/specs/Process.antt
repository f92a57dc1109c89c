-- How a process and a thread are spelled in a row, whatever the section (docs/REPORT.md).
use Rattle.std.specs.Prelude.{ℕ, List, ◌++◌, codes}
use Rattle.std.specs.Fmt.{decimal}
use Rattle.capture_frame.specs.declared.process.Process.{Process}

-- a process: its device and its number
abbrev pub process_field : Process → List ℕ
process_field process = decimal process.device ++ codes " " ++ decimal process.number

-- a thread: its number; a row has its process before it
abbrev pub thread_field : ℕ → List ℕ
thread_field thread = decimal thread
