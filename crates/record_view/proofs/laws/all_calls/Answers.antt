use Rattle.capture_frame.proofs.ReadOnLaws.{all_calls}
use Rattle.record_view.specs.State.{IsRecordView}
use Rattle.record_view.proofs.laws.all_calls.Goals as goal

pub returns : goal.returns
returns c = all_calls IsRecordView
