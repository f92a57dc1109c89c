use Rattle.std.proofs.Common.{[], sym}
use Rattle.call_stacks.proofs.Found.{bracketed-read}
use Rattle.call_stacks.proofs.laws.bracketed_readings.Goals as goal

pub returns : goal.returns
returns g c = λ reads read events. sym (bracketed-read reads read [] events)
