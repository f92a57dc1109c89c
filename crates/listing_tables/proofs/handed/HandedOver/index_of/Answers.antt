use Rattle.std.proofs.Common.{◌∙◌}
use Rattle.std.proofs.lemmas.Result.{IfOk-weaker}
use Rattle.listing_tables.proofs.handed.HandedOver.index_of.Goals as goal

pub returns : goal.returns
returns c = IfOk-weaker c.narrow.result _ _ (λ index is. is ∙ c.in_ok-index.ensures.index) c.narrow.ensures
