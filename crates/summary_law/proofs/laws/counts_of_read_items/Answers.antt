use Rattle.summary_law.proofs.CountLaws.{read_counts}
use Rattle.summary_law.proofs.laws.counts_of_read_items.Goals as goal

pub returns : goal.returns
returns g c = λ read change. read_counts read change
