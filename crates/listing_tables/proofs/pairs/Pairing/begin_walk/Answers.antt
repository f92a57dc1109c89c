use Rattle.std.proofs.Common.{refl, rules, ◌∙◌}
use Rattle.listing_tables.proofs.PairLaws.{filled}
use Rattle.listing_tables.proofs.pairs.Pairing.begin_walk.Goals as goal

pub returns : goal.returns
returns c = record {
  waits = c.clear.ensures;
  crowded = λ key. rw c.clear-2.ensures.empty refl;
  marks = c.in_ok-resize.ensures.items
      ∙ filled c.clear-3.new.self.items c.len-count.result _ _ _ c.clear-3.ensures.items c.clear-3.ensures.len (search rules);
  messages = refl;
  meanings = refl;
  facts = refl;
  news = refl;
}
