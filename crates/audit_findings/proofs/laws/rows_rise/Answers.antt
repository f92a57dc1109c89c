use Rattle.audit_findings.proofs.PlacesRise.{flags_rise, objects_rise}
use Rattle.audit_findings.proofs.laws.rows_rise.Goals as goal

pub returns : goal.returns
returns c = record { objects = objects_rise; flags = flags_rise }
