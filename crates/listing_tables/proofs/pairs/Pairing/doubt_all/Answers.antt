use Rattle.std.proofs.Common.{List, subst}
use Rattle.std.proofs.lemmas.Result.{on_ok_weaker}
use Rattle.listing_tables.specs.Decisions.{DoubtsEach}
use Rattle.listing_tables.specs.declared.fitting.Fit.{Fit}
use Rattle.listing_tables.proofs.PairLaws.{on_ok_both}
use Rattle.listing_tables.proofs.pairs.Pairing.doubt_all.Goals as goal

pub returns-clause-doubts : goal.returns-clause-doubts
returns-clause-doubts c =
    on_ok_weaker c.came.result
    (λ both. record { between = c.doubt_each.new.waiting; doubts = subst (λ (l : List Fit). DoubtsEach c.args.self.now.waiting c.doubt_each.new.waiting l) c.as_slice.ensures.value c.in_ok-doubt_each.ensures; came = both.0; others = both.1 })
    (on_ok_both _ _ c.came.result c.came.ensures.counted c.came.ensures.others)
