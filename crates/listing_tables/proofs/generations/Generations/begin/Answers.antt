use Rattle.listing_tables.proofs.generations.Generations.begin.Goals as goal

pub returns : goal.returns
returns c = record {
  generation = c.new-generation.result;
  named = c.new-generation.ensures.named;
  counts = c.new-generation.ensures.counts;
  unknown = c.new-generation.ensures.unknown;
  last = c.in_ok-index.ensures;
  list = c.in_ok-push.ensures.last;
  latest = c.in_ok-insert.ensures.updates.1;
  others = λ u h other. c.in_ok-insert.ensures.updates.2 (u, h) other;
}
