use Rattle.std.proofs.Common.{refl}
use Rattle.listing_tables.proofs.generations.Generations.name.Goals as goal

pub returns : goal.returns
returns c = record {
  between = c.named.new.self;
  finds = c.in_ok-index.ensures;
  applies = record {
    before = c.in_ok-before.before;
    there = c.in_ok-before.ensures;
    after = c.apply.new.self;
    are = c.in_ok-set.ensures;
    latest = refl;
    same = c.in_ok-apply.ensures.same;
    counts = c.in_ok-apply.ensures.counts;
    ends = c.in_ok-apply.ensures.ends;
    held = c.in_ok-apply.ensures.held;
    given = c.in_ok-apply.ensures.given;
    first = refl;
    second = refl;
  };
}
