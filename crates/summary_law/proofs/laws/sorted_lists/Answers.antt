use Rattle.summary_law.specs.Sorted.{sorted}
use Rattle.summary_law.proofs.Members.{contained, in_list}
use Rattle.summary_law.proofs.SortedLaws.{in_sorted, sorted_in, strictly_sorted}
use Rattle.summary_law.proofs.laws.sorted_lists.Goals as goal

pub returns-clause-rising : goal.returns-clause-rising
returns-clause-rising g c = strictly_sorted g.K.Ord.cmp g.met.K.Ord.total

pub returns-clause-members : goal.returns-clause-members
returns-clause-members g c = λ exact xs x.
    let cmp = g.K.Ord.cmp in (
      λ there. contained xs x (in_sorted cmp xs x (in_list (sorted cmp xs) x there)),
      λ there. contained (sorted cmp xs) x (sorted_in cmp xs (λ a b at_a at_b same. exact a b same) x (in_list xs x there)),
    )
