use Rattle.std.proofs.Common.{sym}
use Rattle.board_tests.proofs.Spacing.{length-spaced}
use Rattle.board_tests.proofs.jobs.ExcerptsWork.jobs.Goals as goal

pub returns : goal.returns
returns c = sym (length-spaced c.args.self.now.low c.args.self.now.high 0 c.args.self.now.jobs)
