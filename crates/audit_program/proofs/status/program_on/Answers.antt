use Rattle.audit_program.specs.Program.{failed}
use Rattle.audit_program.proofs.status.program_on.Goals as goal

pub returns-in-Err : goal.returns-in-Err
returns-in-Err g c = failed c.in-Err.failure c.in-Err.ensures.failed c.ended_by.ensures.line c.ended_by.ensures.status
