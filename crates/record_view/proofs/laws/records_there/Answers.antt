use Rattle.record_view.proofs.RecordLaws.{records_there}
use Rattle.record_view.proofs.laws.records_there.Goals as goal

pub returns : goal.returns
returns c = records_there
