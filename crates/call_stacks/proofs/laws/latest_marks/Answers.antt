use Rattle.call_stacks.proofs.Latest.{bracketed-at}
use Rattle.call_stacks.proofs.laws.latest_marks.Goals as goal

pub returns : goal.returns
returns g c = bracketed-at
