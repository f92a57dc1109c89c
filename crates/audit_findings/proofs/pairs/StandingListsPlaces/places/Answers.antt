use Rattle.std.proofs.Common.{◌∙◌}
use Rattle.std.proofs.lemmas.Result.{IfOk-weaker}
use Rattle.pending_ledger.specs.Requests.{is_standing, request_place}
use Rattle.process_ledgers.proofs.ItemPlaces.{request_keeps}
use Rattle.process_ledgers.specs.Items.{request_item_of}
use Rattle.process_ledgers.specs.Processes.{events_in, items_of_process}
use Rattle.audit_findings.proofs.EventLists.{items_listed}
use Rattle.audit_findings.proofs.pairs.StandingListsPlaces.places.Goals as goal

pub returns : goal.returns
returns c =
    IfOk-weaker c.outstanding.result _ _
    (λ places gives events process of.
    gives (items_of_process request_item_of process events) of.requests
    ∙ items_listed request_place request_item_of request_keeps is_standing (events_in process events))
    c.outstanding.ensures
