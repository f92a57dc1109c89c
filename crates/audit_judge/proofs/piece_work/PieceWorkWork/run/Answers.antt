use Rattle.std.proofs.Common.{sym, ap, arith, ◌∙◌}
use Rattle.std.specs.Option.{option_map}
use Rattle.capture_frame.specs.declared.fault.Fault.{Fault}
use Rattle.claim_board.specs.declared.job.Job.{Job}
use Rattle.audit_judge.proofs.JobLaws.{number_fits, within_pieces, job_here}
use Rattle.audit_judge.proofs.piece_work.PieceWorkWork.run.Goals as goal

pub offset_bounds-self-i : goal.offset_bounds-self-i
offset_bounds-self-i c =
    let work = c.args.self.now in
    let fits = number_fits work.pieces.now work.can_judge c.args.i (within_pieces work.pieces.now c.args.i c.requires) in
    omega (arith, fits)

pub bounds-self-i : goal.bounds-self-i
bounds-self-i c = within_pieces c.args.self.now.pieces.now c.args.i c.requires

pub returns-in-Some : goal.returns-in-Some
returns-in-Some c =
    let pieces = c.args.self.now.pieces.now in
    ap (λ (job : Job). job.fault) (job_here pieces c.args.i c.index-self-i.result (within_pieces pieces c.args.i c.requires))
    ∙ ap (option_map (λ (fault : Fault). fault.place)) (sym c.in-Some.ensures)

pub returns-in-None : goal.returns-in-None
returns-in-None c =
    let pieces = c.args.self.now.pieces.now in (
      tt,
      ap (λ (job : Job). job.fault) (job_here pieces c.args.i c.index-self-i.result (within_pieces pieces c.args.i c.requires))
          ∙ ap (option_map (λ (fault : Fault). fault.place)) (sym c.in-None.ensures),
    )
