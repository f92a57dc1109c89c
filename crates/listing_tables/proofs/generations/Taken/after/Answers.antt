use Rattle.std.proofs.Common.{refl}
use Rattle.listing_tables.proofs.CountLaws.{lower_more, raise_more}
use Rattle.listing_tables.proofs.generations.Taken.after.Goals as goal

pub returns-in_ok-one_more-in-Raise-2 : goal.returns-in_ok-one_more-in-Raise-2
returns-in_ok-one_more-in-Raise-2 c =
    raise_more c.args.self _ c.args.change c.in-Raise.is c.in_ok-one_more-in-Raise.ensures refl c.in_ok-one_more-in-Raise-2.ensures

pub returns-in_ok-one_more-in-Lower : goal.returns-in_ok-one_more-in-Lower
returns-in_ok-one_more-in-Lower c =
    lower_more c.args.self _ c.args.change c.in-Lower.is refl c.in_ok-one_more-in-Lower.ensures c.saturating_sub.ensures
