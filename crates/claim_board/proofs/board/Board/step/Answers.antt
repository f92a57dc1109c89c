use Rattle.std.proofs.Common.{rules, ◌<◌, length}
use Rattle.claim_board.specs.declared.job.Act.TheVariants.{Claim, Look, Lower}
use Rattle.claim_board.proofs.Faults.{step_refused, same_size}
use Rattle.claim_board.proofs.board.Board.step.Goals as goal

pub returns-in-Look-clause-refused : goal.returns-in-Look-clause-refused
returns-in-Look-clause-refused c =
    let lt : c.args.step.worker < length c.args.self.now.stopped = search rules in
    step_refused c.args.self.now c.args.step Look c.look.result c.in-Look.is lt c.look.ensures.refused

pub returns-in-Lower-clause-refused : goal.returns-in-Lower-clause-refused
returns-in-Lower-clause-refused c =
    let lt : c.args.step.worker < length c.args.self.now.stopped = search rules in
    step_refused c.args.self.now c.args.step Lower c.lower.result c.in-Lower.is lt c.lower.ensures.refused

pub returns-in-Claim-clause-same_size : goal.returns-in-Claim-clause-same_size
returns-in-Claim-clause-same_size c =
    let e = c.claim.ensures in same_size c.args.self.now c.claim.new.self Claim c.args.step.worker c.claim.result e.made e.unchanged

pub returns-in-Look-clause-same_size : goal.returns-in-Look-clause-same_size
returns-in-Look-clause-same_size c =
    let e = c.look.ensures in same_size c.args.self.now c.look.new.self Look c.args.step.worker c.look.result e.made e.unchanged

pub returns-in-Lower-clause-same_size : goal.returns-in-Lower-clause-same_size
returns-in-Lower-clause-same_size c =
    let e = c.lower.ensures in same_size c.args.self.now c.lower.new.self Lower c.args.step.worker c.lower.result e.made e.unchanged

pub returns-then-w-len-clause-refused : goal.returns-then-w-len-clause-refused
returns-then-w-len-clause-refused c = search rules
