use Rattle.call_stacks.proofs.Counting.{one_closer, one_opener}
use Rattle.call_stacks.proofs.laws.one_match.Goals as goal

pub returns : goal.returns
returns c = record { one_closer = one_closer; one_opener = one_opener }
