use Rattle.audit_findings.proofs.EachProcess.{sums_each}
use Rattle.audit_findings.proofs.piece_summary.PieceSummary.processes.Goals as goal

pub returns : goal.returns
returns c frames sums none = sums_each _ frames sums.given sums.are_all sums.order sums.sums.processes none
