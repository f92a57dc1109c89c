use Rattle.std.proofs.Common.{[], refl}
use Rattle.audit_findings.proofs.piece_summary.PieceSummarySummary.empty.Goals as goal

pub returns : goal.returns
returns c = record { sequences = refl; order = c.empty.ensures; given = []; are_all = refl; sums = c.empty-2.ensures }
