use Rattle.std.proofs.Common.{[]}
use Rattle.process_ledgers.proofs.OnewayLaws.{by_said}
use Rattle.process_ledgers.proofs.process_ledgers.ProcessLedgersSummary.empty.Goals as goal

pub returns : goal.returns
returns c = record {
  handles = c.empty.ensures;
  nodes = c.empty-2.ensures;
  buffers = c.empty-3.ensures;
  requests = c.empty-4.ensures;
  deaths = c.empty-5.ensures;
  clears = c.empty-6.ensures;
  oneway = by_said c.empty-7.result.own [] c.empty-7.ensures;
}
