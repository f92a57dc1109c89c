use Rattle.std.proofs.Common.{refl}
use Rattle.listing_tables.proofs.pairs.Pairing.walk.Goals as goal

pub returns : goal.returns
returns c = record {
  begun = c.begin_walk.new.self;
  begins = c.in_ok-begin_walk.ensures;
  turned = c.take_turns.new.self;
  turns = c.in_ok-take_turns.ensures;
  claimed = c.claim_all.new.self;
  claims = c.in_ok-claim_all.ensures;
  more = c.in_ok-self.field-0;
  settles = c.in_ok-self.ensures;
  news = refl;
  same = refl;
}
