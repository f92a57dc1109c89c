use Rattle.std.proofs.Common.{sym}
use Rattle.std.proofs.lemmas.List.{length-map}
use Rattle.audit_judge.specs.Jobs.{job_of}
use Rattle.audit_judge.proofs.piece_work.PieceWorkWork.jobs.Goals as goal

pub returns : goal.returns
returns c = sym (length-map c.args.self.now.pieces.now job_of)
