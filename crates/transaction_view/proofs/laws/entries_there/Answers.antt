use Rattle.transaction_view.proofs.EntryLaws.{entries_there}
use Rattle.transaction_view.proofs.laws.entries_there.Goals as goal

pub returns : goal.returns
returns c = entries_there
