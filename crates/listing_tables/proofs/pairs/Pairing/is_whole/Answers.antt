use Rattle.std.proofs.Common.{eqb-true, subst}
use Rattle.listing_tables.specs.Gaps.{AreGapsBefore}
use Rattle.listing_tables.specs.Pairing.{HasNoGap}
use Rattle.listing_tables.proofs.PairLaws.{on_true_from}
use Rattle.listing_tables.proofs.pairs.Pairing.is_whole.Goals as goal

pub returns : goal.returns
returns c =
    on_true_from {P = HasNoGap c.args.self.now c.args.ends.now} _
    (λ t. (
      c.in_ok-send.send,
      c.in_ok-send.ensures,
      subst (AreGapsBefore c.args.self.now.facts.seen.now c.args.ends.now.answered.place) (eqb-true c.in_ok-gaps.gaps c.in_ok-send.send.gaps t)
          c.in_ok-gaps.ensures,
    ))
