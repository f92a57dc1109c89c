use Rattle.std.proofs.Common.{◌≡◌, ℕ, List, Some, None, sym, subst}
use Rattle.std.specs.Prelude.{AllPairs}
use Rattle.capture_frame.specs.Envelope.{PlacedFrame}
use Rattle.capture_frame.specs.Lookup.{AreApart}
use Rattle.claim_board.specs.declared.run.Stop.TheVariants.{Least}
use Rattle.transaction_view.specs.Grammar.{first_content_fault}
use Rattle.audit_judge.specs.Jobs.{first_place}
use Rattle.audit_judge.specs.Pieces.{ArePieces}
use Rattle.audit_judge.proofs.FaultLaws.{sound_of}
use Rattle.audit_judge.proofs.ShareLaws.{job_pieces, shared_jobs, shared_sound, shared_stop}
use Rattle.audit_judge.proofs.judging.judge.Goals as goal

abbrev AreCutSo : ℕ → List PlacedFrame → List (List PlacedFrame) → Type 0
AreCutSo n frames pieces = ArePieces n frames pieces

pub invariant_of-work : goal.invariant_of-work
invariant_of-work g c =
    let n = c.args.piece.frames in
    let frames = c.args.frames.now in
    let are = subst (AreCutSo n frames) (sym c.pieces.ensures) c.in_ok-plan.ensures in
    record { can_judge = job_pieces n frames c.pieces.result.now are c.requires }

pub run_all-requires-after_bounds : goal.run_all-requires-after_bounds
run_all-requires-after_bounds g c κs within =
    let n = c.args.piece.frames in
    let frames = c.args.frames.now in
    let are = subst (AreCutSo n frames) (sym c.pieces.ensures) c.in_ok-plan.ensures in
    shared_jobs c.pieces.result.now (job_pieces n frames c.pieces.result.now are c.requires) (subst (AllPairs AreApart) (sym are.joined) c.requires.apart)

pub returns-in-Ok-clause-sound : goal.returns-in-Ok-clause-sound
returns-in-Ok-clause-sound g c =
    let n = c.args.piece.frames in
    let frames = c.args.frames.now in
    let are = subst (AreCutSo n frames) (sym c.pieces.ensures) c.in_ok-plan.ensures in
    sound_of frames
    (subst (λ (fs : List PlacedFrame). first_content_fault fs ≡ None) are.joined (shared_sound c.pieces.result.now c.in-Ok.ensures.faultless))

pub fault_at-requires-clause-there : goal.fault_at-requires-clause-there
fault_at-requires-clause-there g c =
    let n = c.args.piece.frames in
    let frames = c.args.frames.now in
    let are = subst (AreCutSo n frames) (sym c.pieces.ensures) c.in_ok-plan.ensures in
    let jobs = shared_jobs c.pieces.result.now (job_pieces n frames c.pieces.result.now are c.requires) (subst (AllPairs AreApart) (sym are.joined) c.requires.apart) in
    subst (λ (fs : List PlacedFrame). first_place fs ≡ Some c.in-Err-Least.place) are.joined
    (shared_stop c.pieces.result.now jobs (Least c.in-Err-Least.place) (rw c.in-Err-Least.field-0-is at c.in-Err-Least.ensures.stop))
