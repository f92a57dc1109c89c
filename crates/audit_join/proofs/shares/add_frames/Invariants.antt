use Rattle.std.proofs.Common.{take}
use Rattle.audit_join.specs.Shares.{SumsShare}
use Rattle.audit_join.proofs.shares.add_frames.Given as goal

abbrev pub invariant-loop-number : goal.invariant-loop-number
invariant-loop-number l = SumsShare l.summary (take l.number l.fn.frames)
