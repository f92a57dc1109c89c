use Rattle.std.proofs.Common.{arith}
use Rattle.audit_run.proofs.part_runs.as_bytes.Goals as goal

pub returns-clause-bytes : goal.returns-clause-bytes
returns-clause-bytes c i = omega (arith, c.type_inv.slice i)
