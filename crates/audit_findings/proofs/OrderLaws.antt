-- The order of processes, with one more frame of a process that has ledgers.
use Rattle.std.proofs.Common.{◌≡◌, ◌≢◌, Bool, true, false, cond, List, [], ◌∷◌, ◌++◌, map, All, Option, Some, None, is_some, refl, sym, ap, subst, ◌∙◌, ⊎_elim, filter_map}
use Rattle.std.proofs.lemmas.Bool.{cases_Bool, true≢false}
use Rattle.std.proofs.lemmas.List.Elements.{All-head, All-tail}
use Rattle.std.proofs.lemmas.Simd.{map-map}
use Rattle.std.specs.List.{cons_option, list_any}
use Rattle.std.specs.Map.{lookup, keys_of}
use Rattle.std.specs.Prelude.{⊤}
use Rattle.capture_frame.proofs.ProcessLaws.{same_process_equiv}
use Rattle.capture_frame.specs.Process.{same_process}
use Rattle.capture_frame.specs.Envelope.{PlacedFrame}
use Rattle.capture_frame.specs.declared.process.Process.{Process}
use Rattle.event_core.specs.Events.{events_of_frames, process_of}
use Rattle.event_core.specs.Reading.{event_text}
use Rattle.event_core.specs.declared.event.Event.{Event}
use Rattle.summary_law.proofs.InOrderLaws.{same_keys}
use Rattle.summary_law.specs.ByKey.{IsOwn, items_of}
use Rattle.summary_law.specs.Fed.{SumsPicked}
use Rattle.summary_law.specs.InOrder.{SumsInOrder, firsts}
use Rattle.summary_law.specs.declared.nothing.Nothing.{Nothing}
use Rattle.process_ledgers.specs.Concerns.{concerned, concerns}
use Rattle.process_ledgers.specs.ProcessLedgers.{SumsProcess}
use Rattle.process_ledgers.specs.Processes.{process_of_placed, processes_of}
use Rattle.process_ledgers.specs.declared.process_ledgers.ProcessLedgers.{ProcessLedgers}
use Rattle.audit_findings.specs.EachProcess.{SumsOrder, order_item}
use Rattle.audit_findings.proofs.GivenLaws.{order_next}
use Rattle.audit_findings.proofs.EventLists.{IsKnown, each_known}

-- if the processes of all events are known, no event is fed under an unknown one
module _ (known : List Process) (process : Process) (unknown : list_any (same_process process) known ≡ false) where
  another : (other : Process) → list_any (same_process other) known ≡ true → same_process process other ≡ false
  another other there =
      ⊎_elim
      (λ (same : same_process process other ≡ true).
      let here : list_any (same_process process) known ≡ true
      = ap (λ (t : Process → Bool). list_any t known) (λ i k. same_process_equiv.congr process other k same i) ∙ there in
      absurd (true≢false (sym here ∙ unknown)))
      (λ (apart : same_process process other ≡ false). apart)
      (cases_Bool (same_process process other))

  none_fed : (events : List Event) → All (IsKnown known) (map event_text events)
      → items_of same_process process (filter_map concerned events) ≡ []
  none_fed [] all = refl
  none_fed (event ∷ events) all =
      let texts = map event_text events in
      let there = All-head (IsKnown known) (event_text event) texts all in
      by_kind (another (process_of (event_text event)) there) (none_fed events (All-tail (IsKnown known) (event_text event) texts all)) (concerns event.kind)
    where
      own : Process
      own = process_of (event_text event)

      fed : List (Process × Event)
      fed = filter_map concerned events

      by_kind : same_process process own ≡ false → items_of same_process process fed ≡ [] → (b : Bool)
          → items_of same_process process (cons_option (cond b (Some (own, event)) None) fed) ≡ []
      by_kind apart rest true = rw apart rest
      by_kind apart rest false = rest

has_items : {S I : Type 0} (Sums : S → List I → Type 0) (part : Option S) (items : List I) → IsOwn Sums part items → is_some part ≡ true → items ≢ []
has_items Sums None items own is = absurd (true≢false (sym is))
has_items Sums (Some part) items own is = own.0

-- a process with ledgers of the events of these frames is one of theirs
among_frames : (own : List (Process × ProcessLedgers)) (frames : List PlacedFrame) (events : List Event) (process : Process)
    → map event_text events ≡ events_of_frames frames → SumsPicked concerned (SumsInOrder same_process SumsProcess) own events
    → is_some (lookup (same_process process) own) ≡ true → list_any (same_process process) (processes_of frames) ≡ true
among_frames own frames events process are sums has =
    let known = processes_of frames in
    ⊎_elim
    (λ (there : list_any (same_process process) known ≡ true). there)
    (λ (unknown : list_any (same_process process) known ≡ false).
    let all = subst (All (IsKnown known)) (sym are) (each_known frames) in
    absurd
    (has_items SumsProcess (lookup (same_process process) own) (items_of same_process process (filter_map concerned events)) (sums.parts process) has
    (none_fed known process unknown events all)))
    (cases_Bool (list_any (same_process process) known))

-- with one more frame of a process that has ledgers, the order stays the same
pub order_there : (entries : List (Process × Nothing)) (own : List (Process × ProcessLedgers)) (frames : List PlacedFrame) (events : List Event)
    → map event_text events ≡ events_of_frames frames → SumsOrder entries frames
    → SumsPicked concerned (SumsInOrder same_process SumsProcess) own events → (next : PlacedFrame) (process : Process)
    → process ≡ process_of_placed next → is_some (lookup (same_process process) own) ≡ true → SumsOrder entries (frames ++ next ∷ [])
order_there entries own frames events are order sums next process is has =
    let keys : keys_of entries ≡ processes_of frames
    = order.order ∙ ap (firsts same_process) (map-map (λ (e : Process × ⊤). e.0) order_item frames) in
    let there = ap (list_any (same_process process)) keys ∙ among_frames own frames events process are sums has in
    order_next entries frames next process is (same_keys same_process_equiv entries (map order_item frames) process tt order there)
