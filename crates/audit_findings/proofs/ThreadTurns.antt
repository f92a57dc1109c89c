-- The rows of threads, one thread after another.
use Rattle.std.proofs.Common.{◌≡◌, ℕ, false, ◌+◌, ◌-◌, ◌^◌, min, List, [], ◌∷◌, ◌++◌, sym, ap, ◌∙◌, arith}
use Rattle.std.specs.List.{flat_map, sum_by}
use Rattle.std.proofs.lemmas.Grind.{flat_map-append}
use Rattle.std.proofs.lemmas.List.{append-nil}
use Rattle.std.proofs.lemmas.List.Sums.{sum_by-append, sum_by-cons}
use Rattle.std.proofs.lemmas.Slice.Zip.{all_zipped_more}
use Rattle.call_stacks.specs.Calls.{GivesFindings, event_reads}
use Rattle.call_stacks.specs.declared.call_record.CallEvent.{CallEvent}
use Rattle.call_stacks.specs.declared.calls.Calls.{Calls}
use Rattle.call_stacks.specs.declared.findings.CallFindings.{CallFindings}
use Rattle.capture_frame.specs.declared.process.Thread.{Thread}
use Rattle.audit_findings.specs.declared.thread_rows.ThreadRows.{ThreadRows}
use Rattle.audit_findings.specs.ThreadRows.{AreGatheredRows, IsCountIfSmall, TakesOver, made_in, sends_in, served_in, strays_of}

module _ (founds : List (CallFindings CallEvent)) (found : CallFindings CallEvent) where
  -- a list to which that of one more thread was added
  list_more : {Y : Type 0} (of : CallFindings CallEvent → List Y) (old new : List Y) → new ≡ old ++ of found → old ≡ flat_map of founds
      → new ≡ flat_map of (founds ++ found ∷ [])
  list_more {Y} of old new is are =
      is ∙ ap (λ (t : List Y). t ++ of found) are ∙ ap (λ (t : List Y). flat_map of founds ++ t) (sym (append-nil (of found)))
      ∙ sym (flat_map-append of founds (found ∷ []))

  -- a number to which that of one more thread was added
  number_more : (of : CallFindings CallEvent → ℕ) (old new : ℕ) → new ≡ min (old + of found) (2 ^ 64 - 1) → IsCountIfSmall old (sum_by of founds)
      → IsCountIfSmall new (sum_by of (founds ++ found ∷ []))
  number_more of old new is holds few =
      let all = sum_by-append of founds (found ∷ []) in
      let one = sum_by-cons of found [] in
      let rest = holds (omega (arith, all, few)) in
      omega (arith, is, all, one, rest, few)

-- one more thread
pub thread_more : (entries : List (Thread × Calls CallEvent)) (e : Thread × Calls CallEvent) (found : CallFindings CallEvent) (old new : ThreadRows)
    → GivesFindings event_reads false e.1 found → TakesOver old found new → AreGatheredRows entries old → AreGatheredRows (entries ++ e ∷ []) new
thread_more entries e found old new gives takes rows =
    let founds = rows.founds in
    record {
      founds = founds ++ found ∷ [];
      are = all_zipped_more (λ (e : Thread × Calls CallEvent) found. GivesFindings event_reads false e.1 found) entries founds e found rows.are gives;
      made_are = list_more founds found made_in old.made.items new.made.items takes.made rows.made_are;
      served_are = list_more founds found served_in old.served.items new.served.items takes.served rows.served_are;
      answered_is = number_more founds found (λ (f : CallFindings CallEvent). f.answered) old.answered new.answered takes.answered rows.answered_is;
      replied_is = number_more founds found (λ (f : CallFindings CallEvent). f.replied) old.replied new.replied takes.replied rows.replied_is;
      strays_are = list_more founds found strays_of old.strays.items new.strays.items takes.strays rows.strays_are;
      sends_are = list_more founds found sends_in old.sends.items new.sends.items takes.sends rows.sends_are;
    }
