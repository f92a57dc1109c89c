use Rattle.std.proofs.Common.{[]}
use Rattle.listing_tables.proofs.LeakLaws.{leaked}
use Rattle.listing_tables.proofs.laws.leaked_deliveries.Goals as goal

pub returns : goal.returns
returns c = λ items. leaked [] items
