use Rattle.std.proofs.Common.{sym, subst}
use Rattle.summary_law.specs.Count.{IsCount}
use Rattle.summary_law.proofs.CountLaws.{counted, is_counted, kept_counts, count_within}
use Rattle.summary_law.proofs.laws.counts.Goals as goal

pub returns-clause-one : goal.returns-clause-one
returns-clause-one c = λ count changes. (
  λ is. counted count changes is,
  λ same. subst (λ value. IsCount value changes) (sym same) (is_counted changes),
)

pub returns-clause-kept : goal.returns-clause-kept
returns-clause-kept c = kept_counts

pub returns-clause-within : goal.returns-clause-within
returns-clause-within c = count_within
