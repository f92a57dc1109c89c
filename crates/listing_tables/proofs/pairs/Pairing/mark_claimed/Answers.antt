use Rattle.std.proofs.Common.{inr}
use Rattle.std.proofs.lemmas.Result.{on_ok_weaker}
use Rattle.listing_tables.proofs.CertaintyLaws.{holds_if}
use Rattle.listing_tables.proofs.pairs.Pairing.mark_claimed.Goals as goal

pub returns-clause-marks : goal.returns-clause-marks
returns-clause-marks c =
    on_ok_weaker c.mark_also.result
    (λ also. inr (record {
      must = holds_if c.in_ok-must.must c.in_ok-must.ensures (cc);
      mark = c.in_ok-mark.mark;
      there = c.in_ok-mark.ensures;
      delivery = c.in-By.delivery;
      by = c.in-By.is;
      marks = also;
    }))
    c.mark_also.ensures
