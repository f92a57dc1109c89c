use Rattle.std.proofs.Common.{rules}
use Rattle.summary_law.proofs.count.Count.new.Goals as goal

pub returns : goal.returns
returns c = search rules
