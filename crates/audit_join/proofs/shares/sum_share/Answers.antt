use Rattle.std.proofs.Common.{[], refl}
use Rattle.audit_join.proofs.shares.sum_share.Goals as goal

pub add_frames-requires-clause-none : goal.add_frames-requires-clause-none
add_frames-requires-clause-none c = ([], refl, c.empty-summary.ensures)
