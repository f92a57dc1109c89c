use Rattle.std.proofs.Common.{◌∙◌}
use Rattle.binder_code.specs.Code.{number, size}
use Rattle.binder_code.proofs.LinesOfKinds.{listing_same}
use Rattle.binder_code.proofs.judge.listing.Goals as goal

pub returns : goal.returns
returns c =
    c.listing_in.ensures ∙ listing_same c.args.protocol c.lines.result.now c.lines.ensures.spelled (number c.args.code.0) (size c.args.code.0)
