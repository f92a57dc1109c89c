use Rattle.std.proofs.Common.{◌≤◌, ◌^◌, [], ◌∷◌, length, sym, subst, arith}
use Rattle.std.specs.List.{sum_by}
use Rattle.audit_judge.specs.Jobs.{AreCut, AreSound}
use Rattle.audit_judge.proofs.CutLaws.{are_cut}
use Rattle.audit_join.proofs.SumLaws.{good_cut}
use Rattle.refusal_cases.proofs.pieces.good_frames.Goals as goal

pub returns : goal.returns
returns c =
    let short : sum_by length (c.args.capture.now ∷ []) ≤ 2 ^ 30 = omega arith in
    good_cut c.in_ok-frames.frames (subst AreCut (sym c.in_ok-frames.ensures.0) (are_cut (c.args.capture.now ∷ []) short))
    (subst AreSound c.as_slice.ensures c.in_ok-check_all.ensures)
