use Rattle.std.proofs.Common.{◌≡◌, length}
use Rattle.board_tests.specs.SpacedJobs.{AreSpacedFrom}
use Rattle.board_tests.proofs.jobs.jobs_by_bits.Given as goal

abbrev pub invariant-loop-i : goal.invariant-loop-i
invariant-loop-i l = AreSpacedFrom 0 l.jobs.items × (length l.jobs.items ≡ l.i)
