-- The calls of all threads, and what is kept of them.
use Rattle.std.specs.Prelude.{◌≡◌, ℕ, ◌+◌, ◌-◌, ◌<◌, ◌^◌, min, ◌++◌, not, Bool, false, List, map, filter, length, None}
use Rattle.std.specs.List.{AllZip, flat_map, sum_by}
use Rattle.std.specs.List.Sorted.{IsPermutation, IsNonDecreasingBy}
use Rattle.capture_frame.specs.declared.process.Thread.{Thread}
use Rattle.event_core.specs.Events.{EventRead}
use Rattle.call_stacks.specs.Calls.{GivesFindings, bracket_read, event_place, event_reads, how_many, with_verdict}
use Rattle.call_stacks.specs.Verdicts.{is_answered, is_replied, lacks_reply}
use Rattle.call_stacks.specs.declared.call_record.CallEvent.{CallEvent}
use Rattle.call_stacks.specs.declared.calls.Calls.{Calls}
use Rattle.call_stacks.specs.declared.findings.CallFindings.{CallFindings}
use Rattle.call_stacks.specs.declared.findings.RefusedSend.{RefusedSend}
use Rattle.call_stacks.specs.declared.opener.Opener.{Opener}
use Rattle.audit_findings.specs.Calls.{is_call_bracket, is_made, is_served, openers, refused_sends, stray_closers}
use Rattle.audit_findings.specs.Kept.{call_at_place, places_of}
use Rattle.audit_findings.specs.declared.thread_rows.ThreadRows.{ThreadRows}

-- a refused send, with the place of its event
abbrev pub send_at_place : RefusedSend EventRead → RefusedSend ℕ
send_at_place s = record { event = s.event.place; oneway = s.oneway }

-- what is kept of a call that a thread's ledger found
abbrev pub kept_call : Opener CallEvent → Opener ℕ
kept_call o = record { event = o.event.place; verdict = o.verdict; closer = o.closer }

-- what is kept of a refused send that a thread's ledger found
abbrev pub kept_send : RefusedSend CallEvent → RefusedSend ℕ
kept_send s = record { event = s.event.place; oneway = s.oneway }

-- whether the thread makes the call that its ledger found; if not, it serves it
abbrev pub makes : Opener CallEvent → Bool
makes o = is_call_bracket (bracket_read event_reads None o.event)

-- of these calls of a thread: those that it makes, as they are kept
abbrev pub made_of : List (Opener CallEvent) → List (Opener ℕ)
made_of openers = map kept_call (filter makes openers)

-- those that it serves, as they are kept
abbrev pub served_by : List (Opener CallEvent) → List (Opener ℕ)
served_by openers = map kept_call (filter (λ o. not (makes o)) openers)

-- of what a thread's ledger found: the calls that the thread makes, as they are kept
abbrev pub made_in : CallFindings CallEvent → List (Opener ℕ)
made_in found = made_of found.openers.items

-- the calls that it serves, as they are kept
abbrev pub served_in : CallFindings CallEvent → List (Opener ℕ)
served_in found = served_by found.openers.items

-- the places of the strays
abbrev pub strays_of : CallFindings CallEvent → List ℕ
strays_of found = map event_place found.strays.items

-- the refused sends, as they are kept
abbrev pub sends_in : CallFindings CallEvent → List (RefusedSend ℕ)
sends_in found = map kept_send found.refused.items

-- the new rows are the old ones followed by those of a thread, and the new counts are both together, at most 2^64 - 1
pub record TakesOver (old : ThreadRows) (found : CallFindings CallEvent) (new : ThreadRows) : Type 0 where
  pub made : new.made.items ≡ old.made.items ++ made_in found
  pub served : new.served.items ≡ old.served.items ++ served_in found
  pub answered : new.answered ≡ min (old.answered + found.answered) (2 ^ 64 - 1)
  pub replied : new.replied ≡ min (old.replied + found.replied) (2 ^ 64 - 1)
  pub strays : new.strays.items ≡ old.strays.items ++ strays_of found
  pub sends : new.sends.items ≡ old.sends.items ++ sends_in found

-- the number is the count, if the count fits 64 bits
abbrev pub IsCountIfSmall : ℕ → ℕ → Type 0
IsCountIfSmall number count = count < 2 ^ 64 → number ≡ count

-- the rows are those of the threads of these entries, one thread after another, with how many of their calls have their
-- reply
pub record AreGatheredRows (entries : List (Thread × Calls CallEvent)) (rows : ThreadRows) : Type 0 where
  pub founds : List (CallFindings CallEvent)
  pub are : AllZip (λ (e : Thread × Calls CallEvent) found. GivesFindings event_reads false e.1 found) entries founds
  pub made_are : rows.made.items ≡ flat_map made_in founds
  pub served_are : rows.served.items ≡ flat_map served_in founds
  pub answered_is : IsCountIfSmall rows.answered (sum_by (λ found. found.answered) founds)
  pub replied_is : IsCountIfSmall rows.replied (sum_by (λ found. found.replied) founds)
  pub strays_are : rows.strays.items ≡ flat_map strays_of founds
  pub sends_are : rows.sends.items ≡ flat_map sends_in founds

-- the lists are the old ones, each in the order of its places, and the numbers are the same
pub record AreSortedRows (old new : ThreadRows) : Type 0 where
  pub made : IsPermutation old.made.items new.made.items
  pub made_rise : IsNonDecreasingBy (λ o. o.event) new.made.items
  pub served : IsPermutation old.served.items new.served.items
  pub served_rise : IsNonDecreasingBy (λ o. o.event) new.served.items
  pub answered : new.answered ≡ old.answered
  pub replied : new.replied ≡ old.replied
  pub strays : IsPermutation old.strays.items new.strays.items
  pub strays_rise : IsNonDecreasingBy (λ n. n) new.strays.items
  pub sends : IsPermutation old.sends.items new.sends.items
  pub sends_rise : IsNonDecreasingBy (λ s. s.event) new.sends.items

-- the calls are those of this number and of this list together, and 64 bits can count them
pub record AreAll (told : List (Opener EventRead)) (number : ℕ) (list : List (Opener ℕ)) : Type 0 where
  pub together : length told ≡ number + length list
  pub few : length told < 2 ^ 64

-- the rows keep the calls that lack their reply, the strays and the refused sends of all threads of these events, and
-- how many calls have their reply
pub record KeepRows (rows : ThreadRows) (events : List EventRead) : Type 0 where
  pub made : rows.made.items ≡ map call_at_place (with_verdict lacks_reply (filter is_made (openers events)))
  pub served : rows.served.items ≡ map call_at_place (with_verdict lacks_reply (filter is_served (openers events)))
  pub answered : rows.answered ≡ how_many is_answered (filter is_made (openers events))
  pub replied : rows.replied ≡ how_many is_replied (filter is_served (openers events))
  pub strays : rows.strays.items ≡ places_of (stray_closers events)
  pub sends : rows.sends.items ≡ map send_at_place (refused_sends events)
