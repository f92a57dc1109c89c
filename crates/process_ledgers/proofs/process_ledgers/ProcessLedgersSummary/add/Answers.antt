use Rattle.std.proofs.Common.{[], ◌∷◌, ◌++◌}
use Rattle.std.proofs.lemmas.Result.{on_ok_weaker}
use Rattle.pending_ledger.specs.Pending.{place_of}
use Rattle.pending_ledger.specs.Requests.{request_place}
use Rattle.process_ledgers.specs.Items.{buffer_pending_of, clear_item_of, death_item_of, handle_item_of, node_item_of, oneway_item_of, request_item_of}
use Rattle.process_ledgers.proofs.FitLaws.{few_by, placed_by}
use Rattle.process_ledgers.proofs.ItemPlaces.{buffer_keeps, request_keeps, death_keeps, clear_keeps}
use Rattle.process_ledgers.proofs.OnewayLaws.{by_derived, by_said}
use Rattle.process_ledgers.proofs.process_ledgers.ProcessLedgersSummary.add.Goals as goal

pub add-requires : goal.add-requires
add-requires c = (c.requires.0, c.requires.1.handles, few_by handle_item_of _ c.requires.2)

pub add-requires-2 : goal.add-requires-2
add-requires-2 c = (c.requires.0, c.requires.1.nodes, few_by node_item_of _ c.requires.2)

pub add-requires-3 : goal.add-requires-3
add-requires-3 c = (c.requires.0, c.requires.1.buffers, placed_by place_of buffer_pending_of buffer_keeps _ c.requires.2)

pub add-requires-4 : goal.add-requires-4
add-requires-4 c = (c.requires.0, c.requires.1.requests, placed_by request_place request_item_of request_keeps _ c.requires.2)

pub add-requires-5 : goal.add-requires-5
add-requires-5 c = (c.requires.0, c.requires.1.deaths, placed_by place_of death_item_of death_keeps _ c.requires.2)

pub add-requires-6 : goal.add-requires-6
add-requires-6 c = (c.requires.0, c.requires.1.clears, placed_by place_of clear_item_of clear_keeps _ c.requires.2)

pub add-requires-7 : goal.add-requires-7
add-requires-7 c = (c.requires.0, by_derived c.args.self.now.oneway.own _ c.requires.1.oneway, few_by oneway_item_of _ c.requires.2)

pub returns : goal.returns
returns c =
    on_ok_weaker c.add-7.result
    (λ adds items sums fits.
    let all = items ++ c.args.item ∷ [] in
    record {
      handles = c.in_ok-add.ensures items sums.handles (few_by handle_item_of all fits);
      nodes = c.in_ok-add-2.ensures items sums.nodes (few_by node_item_of all fits);
      buffers = c.in_ok-add-3.ensures items sums.buffers (placed_by place_of buffer_pending_of buffer_keeps all fits);
      requests = c.in_ok-add-4.ensures items sums.requests (placed_by request_place request_item_of request_keeps all fits);
      deaths = c.in_ok-add-5.ensures items sums.deaths (placed_by place_of death_item_of death_keeps all fits);
      clears = c.in_ok-add-6.ensures items sums.clears (placed_by place_of clear_item_of clear_keeps all fits);
      oneway = by_said c.add-7.new.self.own _ (adds items (by_derived c.args.self.now.oneway.own _ sums.oneway) (few_by oneway_item_of all fits));
    })
    c.add-7.ensures
