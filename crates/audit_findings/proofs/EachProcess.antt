-- The ledgers of each process over the events that concern a ledger are its ledgers among all events.
use Rattle.std.proofs.Common.{◌≡◌, List, [], map, Option, Some, None, sym, ap, subst, ◌∙◌}
use Rattle.std.specs.Map.{lookup}
use Rattle.std.specs.List.{filter_map}
use Rattle.std.specs.Option.{unwrap_or}
use Rattle.std.specs.Prelude.{⊤}
use Rattle.std.proofs.lemmas.Simd.{map-map}
use Rattle.capture_frame.specs.Envelope.{PlacedFrame}
use Rattle.capture_frame.specs.Process.{same_process}
use Rattle.capture_frame.specs.declared.process.Process.{Process}
use Rattle.event_core.specs.Events.{events_of_frames}
use Rattle.event_core.specs.Reading.{event_text}
use Rattle.event_core.specs.declared.event.Event.{Event}
use Rattle.summary_law.specs.ByKey.{items_of, IsOwn}
use Rattle.summary_law.specs.Fed.{SumsPicked}
use Rattle.summary_law.specs.InOrder.{SumsInOrder, firsts}
use Rattle.process_ledgers.specs.Concerns.{concerned}
use Rattle.process_ledgers.specs.EachProcess.{AreLedgersOf}
use Rattle.process_ledgers.specs.ProcessLedgers.{SumsProcess}
use Rattle.process_ledgers.proofs.EachProcess.{own_ledgers}
use Rattle.audit_findings.specs.declared.processes.Processes.{Processes}
use Rattle.audit_findings.specs.EachProcess.{SumsEach, SumsOrder, ledgers_in, order_item}

part_sums : {S I : Type 0} (Sums : S → List I → Type 0) (none : S) (part : Option S) (items : List I) → Sums none [] → IsOwn Sums part items → Sums (unwrap_or part none) items
part_sums Sums none None items sums is = subst (Sums none) (sym is) sums
part_sums Sums none (Some part) items sums is = is.1

-- if the order is that of the processes of these frames, and the ledgers are those of their events, these are the
-- processes of the frames
pub sums_each : (processes : Processes) (frames : List PlacedFrame) (events : List Event) → map event_text events ≡ events_of_frames frames
    → SumsOrder processes.order.now.entries.entries frames → SumsPicked concerned (SumsInOrder same_process SumsProcess) processes.own.now.entries.entries events
    → SumsProcess processes.none.now [] → SumsEach processes frames
sums_each processes frames events is order own none = record {
  order = order.order ∙ ap (firsts same_process) (map-map (λ (e : Process × ⊤). e.0) order_item frames);
  each = λ q.
      subst (λ texts. AreLedgersOf (ledgers_in processes q) texts q) is
      (own_ledgers (ledgers_in processes q) q events
      (part_sums SumsProcess processes.none.now (lookup (same_process q) processes.own.now.entries.entries) (items_of same_process q (filter_map concerned events)) none
      (own.parts q)));
}
