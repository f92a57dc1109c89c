use Rattle.listing_tables.proofs.ReplyLaws.{each_reply}
use Rattle.listing_tables.proofs.laws.replies.Goals as goal

pub returns : goal.returns
returns c = λ steps. each_reply steps
