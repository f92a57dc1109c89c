use Rattle.audit_program.proofs.status.program.Goals as goal

pub returns : goal.returns
returns g c = (c.program_on.result.told, c.program_on.ensures)
