use Rattle.std.proofs.Common.{nat_eq, ◌∙◌}
use Rattle.listing_tables.proofs.PairLaws.{still_true}
use Rattle.listing_tables.proofs.pairs.Pairing.note_crowded.Goals as goal

pub returns-clause-stays : goal.returns-clause-stays
returns-clause-stays c =
    λ other was. c.in_ok-insert.ensures.updates.0 other ∙ still_true (nat_eq c.args.key other) _ was
