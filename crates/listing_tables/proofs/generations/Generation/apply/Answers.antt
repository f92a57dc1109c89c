use Rattle.listing_tables.proofs.generations.Generation.apply.Goals as goal

pub returns-in-Takes-clause-counts : goal.returns-in-Takes-clause-counts
returns-in-Takes-clause-counts c = rw c.in-Takes.is c.take.ensures.counts
