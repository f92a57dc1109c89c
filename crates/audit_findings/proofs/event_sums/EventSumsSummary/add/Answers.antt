use Rattle.std.proofs.Common.{◌≡◌, Bool, true, false, cond, Some, None, [], ◌∷◌, ◌++◌, map, sym, ap, subst, ◌∙◌}
use Rattle.std.proofs.lemmas.List.{map-append}
use Rattle.capture_frame.specs.declared.process.Process.{Process}
use Rattle.event_core.specs.Events.{process_of}
use Rattle.event_core.specs.Reading.{event_text}
use Rattle.event_core.specs.declared.event.Event.{Event}
use Rattle.audit_findings.specs.Ledgers.{AreFewEvents, SumsEvents}
use Rattle.audit_findings.specs.ThreadLedger.{SumsThreadCalls}
use Rattle.audit_findings.proofs.GivenLaws.{SumsAll, FitAll, each_placed}
use Rattle.process_ledgers.specs.Concerns.{concerned, concerns}
use Rattle.summary_law.proofs.FedLaws.{can_add_picked, picked_added, nothing_added}
use Rattle.audit_findings.proofs.event_sums.EventSumsSummary.add.Goals as goal

pub add-requires : goal.add-requires
add-requires c =
    let given = c.requires.0 in
    (map event_text given, c.requires.1.all, subst AreFewEvents (map-append event_text given (c.args.item ∷ [])) c.requires.2)

pub add-requires-2 : goal.add-requires-2
add-requires-2 c =
    let given = c.requires.0 in
    (map event_text given, c.requires.1.threads, subst AreFewEvents (map-append event_text given (c.args.item ∷ [])) c.requires.2)

-- an event that concerns a ledger is fed under its process
fed_own : (event : Event) (own : Process) → concerns event.kind ≡ true → own ≡ process_of (event_text event) → concerned event ≡ Some (own, event)
fed_own event own is of =
    ap (λ (b : Bool). cond b (Some (process_of (event_text event), event)) None) is ∙ ap (λ (p : Process). Some (p, event)) (sym of)

-- and no other is
fed_none : (event : Event) → concerns event.kind ≡ false → concerned event ≡ None
fed_none event is = ap (λ (b : Bool). cond b (Some (process_of (event_text event), event)) None) is

pub add-requires-then-concerns : goal.add-requires-then-concerns
add-requires-then-concerns c =
    let given = c.requires.0 in
    let fed : Process × Event = (c.of_process.result, c.args.item) in
    can_add_picked concerned SumsAll FitAll c.args.self.now.processes c.args.item fed
    (fed_own c.args.item c.of_process.result (sym c.concerns.ensures ∙ c.if-concerns.true) c.of_process.ensures)
    (given, c.requires.1.processes, each_placed (given ++ c.args.item ∷ []) c.requires.2)

pub returns-in_ok-add-3 : goal.returns-in_ok-add-3
returns-in_ok-add-3 c given sums few =
    let fed : Process × Event = (c.of_process.result, c.args.item) in
    let both = map-append event_text given (c.args.item ∷ []) in
    let fits = subst AreFewEvents both few in
    record {
      all = subst (SumsEvents c.add.new.self) (sym both) (c.in_ok-add.ensures (map event_text given) sums.all fits);
      threads = subst (SumsThreadCalls c.add-2.new.self) (sym both) (c.in_ok-add-2.ensures (map event_text given) sums.threads fits);
      processes = picked_added concerned SumsAll FitAll c.args.self.now.processes c.add-then-concerns.new.self c.args.item fed
          (fed_own c.args.item c.of_process.result (sym c.concerns.ensures ∙ c.if-concerns.true) c.of_process.ensures)
          c.in_ok-add-3.ensures given sums.processes (each_placed (given ++ c.args.item ∷ []) few);
    }

pub returns-else-concerns : goal.returns-else-concerns
returns-else-concerns c given sums few =
    let both = map-append event_text given (c.args.item ∷ []) in
    let fits = subst AreFewEvents both few in
    record {
      all = subst (SumsEvents c.add.new.self) (sym both) (c.in_ok-add.ensures (map event_text given) sums.all fits);
      threads = subst (SumsThreadCalls c.add-2.new.self) (sym both) (c.in_ok-add-2.ensures (map event_text given) sums.threads fits);
      processes = nothing_added concerned SumsAll FitAll c.args.self.now.processes c.args.item
          (fed_none c.args.item (sym c.concerns.ensures ∙ c.if-concerns.false)) given sums.processes (each_placed (given ++ c.args.item ∷ []) few);
    }
