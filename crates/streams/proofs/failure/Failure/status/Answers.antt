use Rattle.std.proofs.Common.{rules}
use Rattle.streams.proofs.failure.Failure.status.Goals as goal

pub returns-in-Run-Memory : goal.returns-in-Run-Memory
returns-in-Run-Memory c = search rules
