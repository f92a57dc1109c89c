use Rattle.call_stacks.proofs.JoinedMatch.{joined_matches}
use Rattle.call_stacks.proofs.laws.joined_match.Goals as goal

pub returns : goal.returns
returns c = joined_matches
