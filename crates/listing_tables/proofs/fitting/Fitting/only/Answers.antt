use Rattle.std.proofs.Common.{List, sym, subst}
use Rattle.listing_tables.specs.declared.fitting.Fit.{Fit}
use Rattle.listing_tables.specs.Certainty.{IsIn}
use Rattle.listing_tables.proofs.fitting.Fitting.only.Goals as goal

pub returns : goal.returns
returns c = record {
  is = c.in_ok-only.ensures;
  only = λ other h. c.if-not-are_out_of_question.ensures other (subst (λ (l : List Fit). IsIn l other) (sym c.as_slice.ensures.value) h);
}
