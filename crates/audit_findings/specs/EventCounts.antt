-- Counts of the records of a process, over all events of the capture (docs/REPORT.md).
use Rattle.std.specs.Prelude.{◌≡◌, ◌≤◌, ℕ, ℤ, pos, ◌-ℤ◌, ◌≤ℤ◌, ◌&&◌, Bool, List, length, take, count_by}
use Rattle.capture_frame.specs.Process.{same_process}
use Rattle.capture_frame.specs.declared.process.Process.{Process}
use Rattle.event_core.specs.Events.{EventRead, process_of}
use Rattle.summary_law.specs.declared.count.Count.{Count}

-- how many of these events are of the process and pass the test
abbrev pub times_in : Process → (EventRead → Bool) → List EventRead → ℕ
times_in process test events = count_by (λ e. same_process process (process_of e) && test e) events

-- how many of these events are of the process and pass the first test, less how many are and pass the second
abbrev pub difference_in : Process → (EventRead → Bool) → (EventRead → Bool) → List EventRead → ℤ
difference_in process more less events = pos (times_in process more events) -ℤ pos (times_in process less events)

-- the sum is the value of all events, and the low is the least value of their prefixes, the empty one included
pub record HasValue (value : List EventRead → ℤ) (events : List EventRead) (count : Count) : Type 0 where
  pub sum : count.sum ≡ value events
  pub reached : (n : ℕ) × (n ≤ length events) × (count.low ≡ value (take n events))
  pub least : (n : ℕ) → n ≤ length events → count.low ≤ℤ value (take n events)
