use Rattle.std.proofs.Common.{sym, ap, arith, ◌∙◌}
use Rattle.claim_board.specs.declared.job.Job.{Job}
use Rattle.audit_judge.proofs.JobLaws.{number_fits, within_pieces, job_here}
use Rattle.audit_judge.proofs.piece_work.PieceWorkWork.start.Goals as goal

pub offset_bounds-self-i : goal.offset_bounds-self-i
offset_bounds-self-i c =
    let work = c.args.self.now in
    let fits = number_fits work.pieces.now work.can_judge c.args.i (within_pieces work.pieces.now c.args.i c.requires) in
    omega (arith, fits)

pub bounds-self-i : goal.bounds-self-i
bounds-self-i c = within_pieces c.args.self.now.pieces.now c.args.i c.requires

pub start_of-requires : goal.start_of-requires
start_of-requires c =
    let work = c.args.self.now in
    work.can_judge.some c.args.i c.index-self-i.result (within_pieces work.pieces.now c.args.i c.requires)

pub returns : goal.returns
returns c =
    let pieces = c.args.self.now.pieces.now in
    c.start_of.ensures
    ∙ sym (ap (λ (job : Job). job.start) (job_here pieces c.args.i c.index-self-i.result (within_pieces pieces c.args.i c.requires)))
