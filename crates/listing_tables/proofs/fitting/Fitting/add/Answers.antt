use Rattle.std.proofs.Common.{refl}
use Rattle.listing_tables.proofs.CertaintyLaws.{adds}
use Rattle.listing_tables.proofs.fitting.Fitting.add.Goals as goal

pub returns : goal.returns
returns c =
    let rest = c.leave_worse.ensures in
    adds c.args.self.now c.leave_worse.new.self _ c.args.rank c.args.fit c.if-rank-self.false rest.worse rest.kept rest.looked rest.whole
    c.in_ok-push.ensures.items refl refl refl
