use Rattle.capture_frame.specs.State.{IsFrameView}
use Rattle.capture_frame.proofs.ReadOnLaws.{all_calls}
use Rattle.capture_frame.proofs.laws.all_calls.Goals as goal

pub returns : goal.returns
returns c = all_calls IsFrameView
