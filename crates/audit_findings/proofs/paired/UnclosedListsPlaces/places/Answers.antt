use Rattle.std.proofs.Common.{◌∙◌}
use Rattle.std.proofs.lemmas.Result.{IfOk-weaker}
use Rattle.std.specs.Ordering.{eq_by_cmp, nat_cmp}
use Rattle.pending_ledger.specs.Pending.{is_unclosed_item, place_of}
use Rattle.process_ledgers.specs.Processes.{events_in, items_of_process}
use Rattle.audit_findings.proofs.EventLists.{items_listed}
use Rattle.audit_findings.proofs.paired.UnclosedListsPlaces.places.Goals as goal

pub returns : goal.returns
returns g c =
    let read = g.P.OpensAndCloses.read in
    IfOk-weaker c.outstanding.result _ _
    (λ places gives events process of.
    gives (items_of_process read process events) (c.ledger.ensures events process of)
    ∙ items_listed place_of read g.P.OpensAndCloses.keeps (is_unclosed_item (eq_by_cmp nat_cmp)) (events_in process events))
    c.outstanding.ensures
