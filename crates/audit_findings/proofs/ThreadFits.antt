-- What is fed of few events can be summed under their threads.
use Rattle.std.proofs.Common.{◌≡◌, ◌<◌, Bool, true, false, cond, List, [], ◌∷◌, ◌++◌, map, filter, ap, subst, ◌∙◌, arith}
use Rattle.std.proofs.lemmas.List.{length-map, map-append}
use Rattle.std.proofs.lemmas.List.Sums.{count_by-le-length, length-filter}
use Rattle.std.proofs.lemmas.List.Elements.{filter-append}
use Rattle.call_stacks.specs.Calls.{event_place, CallsSum, event_reads}
use Rattle.call_stacks.specs.declared.call_record.CallEvent.{CallEvent}
use Rattle.call_stacks.specs.declared.calls.Calls.{Calls}
use Rattle.event_core.specs.Events.{EventRead}
use Rattle.summary_law.proofs.ReadLaws.{items_rise}
use Rattle.summary_law.proofs.ReadLaws.{length-read}
use Rattle.summary_law.specs.ByKey.{EachFits, under}
use Rattle.summary_law.specs.Fits.{IsPlaced, PlacesRise}
use Rattle.capture_frame.specs.declared.process.Thread.{Thread}
use Rattle.summary_law.specs.InOrder.{SumsInOrder}
use Rattle.audit_findings.specs.Ledgers.{AreFewEvents}
use Rattle.capture_frame.specs.Process.{same_thread}
use Rattle.audit_findings.specs.ThreadLedger.{fed_call, fed_calls, leaves_mark}
use Rattle.capture_frame.proofs.Pairs.{pairs_map}
use Rattle.audit_findings.proofs.Rising.{rising_kept}

-- what is fed under each thread can be summed
abbrev pub FitThreads : List (Thread × CallEvent) → Type 0
FitThreads fed = EachFits same_thread (IsPlaced event_place) fed

-- and these entries are its sums
abbrev pub SumsFedCalls : List (Thread × Calls CallEvent) → List (Thread × CallEvent) → Type 0
SumsFedCalls entries fed = SumsInOrder same_thread (CallsSum event_reads false) entries fed

pub fit_calls : (events : List EventRead) → IsPlaced (λ (e : EventRead). e.place) events → FitThreads (fed_calls events)
fit_calls events placed key =
    let marked = filter leaves_mark events in
    let fed = fed_calls events in
    let long = length-map marked fed_call in
    let read = length-read (under same_thread key) fed in
    let short = placed.0 in
    let rise : PlacesRise (λ (e : Thread × CallEvent). e.1.place) fed
    = pairs_map (λ (a b : Thread × CallEvent). a.1.place < b.1.place) fed_call marked
    (rising_kept (λ (e : EventRead). e.place) leaves_mark events placed.1) in
    (omega (arith, length-filter leaves_mark events, count_by-le-length leaves_mark events, long, read, short), items_rise same_thread key event_place fed rise)

-- what is fed of one list followed by another
pub fed_after : (first second : List EventRead) → fed_calls (first ++ second) ≡ fed_calls first ++ fed_calls second
fed_after first second =
    ap (map fed_call) (filter-append leaves_mark first second) ∙ map-append fed_call (filter leaves_mark first) (filter leaves_mark second)

pub fit_after : (first second : List EventRead) → AreFewEvents (first ++ second) → FitThreads (fed_calls first ++ fed_calls second)
fit_after first second few = subst FitThreads (fed_after first second) (fit_calls (first ++ second) few.0)

-- an event that leaves a mark is fed, and any other is not
pub fed_marked : (e : EventRead) → leaves_mark e ≡ true → fed_calls (e ∷ []) ≡ fed_call e ∷ []
fed_marked e is = ap (λ (b : Bool). map fed_call (cond b (e ∷ []) [])) is

pub fed_plain : (e : EventRead) → leaves_mark e ≡ false → fed_calls (e ∷ []) ≡ []
fed_plain e is = ap (λ (b : Bool). map fed_call (cond b (e ∷ []) [])) is
