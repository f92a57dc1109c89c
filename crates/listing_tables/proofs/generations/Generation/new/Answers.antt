use Rattle.listing_tables.proofs.CountLaws.{none_taken}
use Rattle.listing_tables.proofs.generations.Generation.new.Goals as goal

pub returns-clause-counts : goal.returns-clause-counts
returns-clause-counts c = record { strong = none_taken; weak = none_taken }
