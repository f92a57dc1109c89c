use Rattle.std.proofs.Common.{◌≡◌, List, map, refl, sym, subst, ◌∙◌}
use Rattle.std.proofs.lemmas.Result.{on_ok_weaker}
use Rattle.capture_frame.specs.Process.{same_process}
use Rattle.capture_frame.specs.declared.process.Process.{Process}
use Rattle.event_core.specs.declared.event.Event.{Event}
use Rattle.process_ledgers.specs.Concerns.{concerned}
use Rattle.process_ledgers.specs.ProcessLedgers.{SumsProcess}
use Rattle.process_ledgers.specs.declared.process_ledgers.ProcessLedgers.{ProcessLedgers}
use Rattle.summary_law.specs.Fed.{SumsPicked}
use Rattle.summary_law.specs.InOrder.{SumsInOrder}
use Rattle.summary_law.specs.declared.in_order.InOrder.{InOrder}
use Rattle.audit_findings.specs.EachProcess.{order_item}
use Rattle.audit_findings.specs.Ledgers.{SumsGiven}
use Rattle.audit_findings.specs.declared.event_sums.EventSums.{EventSums}
use Rattle.audit_findings.proofs.GivenLaws.{order_next}
use Rattle.audit_findings.proofs.OrderLaws.{order_there}
use Rattle.audit_findings.proofs.piece_summary.PieceSummary.name_process.Goals as goal

pub add-requires : goal.add-requires
add-requires c = (map order_item c.requires.0, c.requires.1.order, λ key. tt)

-- the sums of events, if the entries of the processes are the same
same_entries : (sums : EventSums) (processes : InOrder Process ProcessLedgers Event) → processes.entries ≡ sums.processes.entries
    → (events : List Event) → SumsGiven sums events → SumsGiven (record sums { processes = processes }) events
same_entries sums processes same events given = record {
  all = given.all;
  threads = given.threads;
  processes = subst (λ es. SumsPicked concerned (SumsInOrder same_process SumsProcess) es.entries events) (sym same) given.processes;
}

pub returns-then-has : goal.returns-then-has
returns-then-has c = record {
  sequences = refl;
  order = λ frames next sums is.
      order_there c.args.self.now.order.entries.entries c.args.self.now.of_events.processes.entries.entries frames sums.given sums.are_all sums.order
      sums.sums.processes next c.args.process is (sym c.has.ensures.has ∙ c.if-has.true);
  sums = same_entries c.args.self.now.of_events c.has.new.self c.has.ensures.same;
}

pub returns : goal.returns
returns c =
    on_ok_weaker c.add.result
    (λ adds. record {
      sequences = refl;
      order = λ frames next sums is.
          order_next c.add.new.self.entries.entries frames next c.args.process is
          (adds (map order_item frames) sums.order (λ key. tt));
      sums = same_entries c.args.self.now.of_events c.has.new.self c.has.ensures.same;
    })
    c.add.ensures
