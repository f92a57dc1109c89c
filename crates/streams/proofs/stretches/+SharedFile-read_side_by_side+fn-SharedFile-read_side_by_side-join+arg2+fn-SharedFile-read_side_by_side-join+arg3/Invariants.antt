use Rattle.std.proofs.Common.{◌*◌, ◌+◌}
use Rattle.streams.proofs.stretches.+SharedFile-read_side_by_side+fn-SharedFile-read_side_by_side-join+arg2+fn-SharedFile-read_side_by_side-join+arg3.Given as goal

-- each half has fewer threads, and a closure calls with as many as it has
abbrev pub decreases-SharedFile::read_side_by_side : goal.decreases-SharedFile::read_side_by_side
decreases-SharedFile::read_side_by_side g l = l.threads * 2

abbrev pub decreases-join+arg2 : goal.decreases-join+arg2
decreases-join+arg2 g l = l.some * 2 + 1

abbrev pub decreases-join+arg3 : goal.decreases-join+arg3
decreases-join+arg3 g l = l.others * 2 + 1
