use Rattle.std.proofs.Common.{sym}
use Rattle.listing_tables.proofs.seen.Seen.is_referred.Goals as goal

pub returns : goal.returns
returns c = (c.in-Some.referred.now, sym c.in-Some.ensures.value, c.if-referred-place.true)
