use Rattle.std.proofs.Common.{List, sym, subst}
use Rattle.listing_tables.specs.declared.fitting.Fit.{Fit}
use Rattle.listing_tables.specs.Certainty.{IsIn}
use Rattle.listing_tables.proofs.fitting.Fitting.are_alike.Goals as goal

pub returns : goal.returns
returns c = (
  c.in-Some.first.sent.generation,
  λ fit h. c.if-not-are_all_of.ensures fit (subst (λ (l : List Fit). IsIn l fit) (sym c.as_slice.ensures.value) h),
)
