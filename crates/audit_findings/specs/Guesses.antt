-- The guesses at where the ledgers of a process and the calls of a thread are. A guess decides how often a key is looked
-- up, and no answer. No public clause names these definitions.
use Rattle.std.specs.Prelude.{ℕ, ◌+◌, ◌*◌, ◌%◌, slice_index_or}
use Rattle.capture_frame.specs.declared.process.Thread.{Thread}
use Rattle.audit_findings.specs.declared.event_sums.EventSums.{EventSums}
use Rattle.audit_findings.specs.declared.guesses.Guess.{Guess}
use Rattle.audit_findings.specs.declared.guesses.Guesses.{Guesses}
use Rattle.audit_findings.specs.declared.guesses.TheConstants.{SLOTS}

-- the slot of a thread
abbrev pub slot_of : Thread → ℕ
slot_of thread = (thread.number + 16 * thread.process.number + 256 * thread.process.device) % SLOTS

-- the guess where nothing is known
abbrev pub first_guess : Guess
first_guess = record { process = 0; thread = 0 }

-- the guess that is kept of a thread
abbrev pub guess_of : Guesses → Thread → Guess
guess_of guesses thread = slice_index_or guesses.slots.items (slot_of thread) first_guess

-- the guess that the sums of events look at first
abbrev pub guess_in : EventSums → Guess
guess_in sums = record { process = sums.processes.guess; thread = sums.threads.threads.guess }
