use Rattle.std.proofs.Common.{rules}
use Rattle.listing_tables.proofs.NextLaws.{keeps_all, keeps_next}
use Rattle.listing_tables.proofs.fitting.Fitting.keep_next.Goals as goal

pub returns-clause-next : goal.returns-clause-next
returns-clause-next c =
    keeps_next _ c.in-Some.first _ (λ x b g k. search rules) _ _ c.retain.ensures.filtered (rw c.in-Some.is at c.first_fresh.ensures)

pub returns-in_default-clause-next : goal.returns-in_default-clause-next
returns-in_default-clause-next c = keeps_all _ (search rules)
