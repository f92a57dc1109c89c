use Rattle.std.proofs.Common.{rules}
use Rattle.audit_run.proofs.part_runs.write_fault.Goals as goal

pub returns-clause-ok : goal.returns-clause-ok
returns-clause-ok g c = search rules
