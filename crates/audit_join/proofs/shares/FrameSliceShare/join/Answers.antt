use Rattle.std.proofs.lemmas.Result.{IfOk-weaker}
use Rattle.audit_join.specs.Shares.{SumsShare}
use Rattle.audit_join.proofs.SumLaws.{can_join_shares, shares_joined}
use Rattle.audit_join.proofs.shares.FrameSliceShare.join.Goals as goal

pub join-requires : goal.join-requires
join-requires c =
    let given = c.requires.1 in
    can_join_shares c.args.self.now given.0 given.1 given.2 c.requires.0 c.args.first c.args.second given.3 given.4

pub returns : goal.returns
returns c =
    let given = c.requires.1 in
    IfOk-weaker c.join.result _ (λ summary. SumsShare summary c.args.self.now)
    (shares_joined c.args.self.now given.0 given.1 given.2 c.requires.0 c.args.first c.args.second given.3 given.4)
    c.join.ensures
