use Rattle.std.proofs.Common.{◌++◌}
use Rattle.std.proofs.lemmas.Result.{IfOk-at_ok}
use Rattle.pending_ledger.specs.Pending.{place_of}
use Rattle.pending_ledger.specs.Requests.{request_place}
use Rattle.process_ledgers.specs.Items.{buffer_pending_of, clear_item_of, death_item_of, handle_item_of, node_item_of, oneway_item_of, request_item_of}
use Rattle.process_ledgers.proofs.FitLaws.{few_by, placed_by}
use Rattle.process_ledgers.proofs.ItemPlaces.{buffer_keeps, request_keeps, death_keeps, clear_keeps}
use Rattle.process_ledgers.proofs.OnewayLaws.{by_derived, by_said}
use Rattle.process_ledgers.proofs.process_ledgers.ProcessLedgersSummary.join.Goals as goal

pub join-handles-requires : goal.join-handles-requires
join-handles-requires c = (c.requires.0, c.requires.1, c.requires.2.handles, c.requires.3.handles, few_by handle_item_of _ c.requires.4)

pub join-nodes-requires : goal.join-nodes-requires
join-nodes-requires c = (c.requires.0, c.requires.1, c.requires.2.nodes, c.requires.3.nodes, few_by node_item_of _ c.requires.4)

pub join-buffers-requires : goal.join-buffers-requires
join-buffers-requires c = (c.requires.0, c.requires.1, c.requires.2.buffers, c.requires.3.buffers, placed_by place_of buffer_pending_of buffer_keeps _ c.requires.4)

pub join-requests-requires : goal.join-requests-requires
join-requests-requires c = (c.requires.0, c.requires.1, c.requires.2.requests, c.requires.3.requests, placed_by request_place request_item_of request_keeps _ c.requires.4)

pub join-deaths-requires : goal.join-deaths-requires
join-deaths-requires c = (c.requires.0, c.requires.1, c.requires.2.deaths, c.requires.3.deaths, placed_by place_of death_item_of death_keeps _ c.requires.4)

pub join-clears-requires : goal.join-clears-requires
join-clears-requires c = (c.requires.0, c.requires.1, c.requires.2.clears, c.requires.3.clears, placed_by place_of clear_item_of clear_keeps _ c.requires.4)

pub join-oneway-requires : goal.join-oneway-requires
join-oneway-requires c = (
  c.requires.0,
  c.requires.1,
  by_derived c.args.self.oneway.own _ c.requires.2.oneway,
  by_derived c.args.later.oneway.own _ c.requires.3.oneway,
  few_by oneway_item_of _ c.requires.4,
)

pub returns : goal.returns
returns c first second sums others fits =
    let all = first ++ second in
    let ok = c.in-Ok-Ok-Ok-Ok-Ok-Ok-Ok in
    let handles = IfOk-at_ok _ ok.is-0 c.join-handles.ensures in
    let nodes = IfOk-at_ok _ ok.is-1 c.join-nodes.ensures in
    let buffers = IfOk-at_ok _ ok.is-2 c.join-buffers.ensures in
    let requests = IfOk-at_ok _ ok.is-3 c.join-requests.ensures in
    let deaths = IfOk-at_ok _ ok.is-4 c.join-deaths.ensures in
    let clears = IfOk-at_ok _ ok.is-5 c.join-clears.ensures in
    let oneway = IfOk-at_ok _ ok.is-6 c.join-oneway.ensures in
    record {
      handles = handles first second sums.handles others.handles (few_by handle_item_of all fits);
      nodes = nodes first second sums.nodes others.nodes (few_by node_item_of all fits);
      buffers = buffers first second sums.buffers others.buffers (placed_by place_of buffer_pending_of buffer_keeps all fits);
      requests = requests first second sums.requests others.requests (placed_by request_place request_item_of request_keeps all fits);
      deaths = deaths first second sums.deaths others.deaths (placed_by place_of death_item_of death_keeps all fits);
      clears = clears first second sums.clears others.clears (placed_by place_of clear_item_of clear_keeps all fits);
      oneway = by_said ok.oneway.own _
          (oneway first second (by_derived c.args.self.oneway.own _ sums.oneway) (by_derived c.args.later.oneway.own _ others.oneway)
          (few_by oneway_item_of all fits));
    }
