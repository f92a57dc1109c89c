use Rattle.std.proofs.Common.{Ok, sym, ap, subst, ◌∙◌}
use Rattle.transaction_view.specs.Grammar.{first_content_fault}
use Rattle.audit_judge.specs.Jobs.{AreCut, AreSound}
use Rattle.audit_judge.proofs.CutLaws.{all_sound, cut_so, first_bad}
use Rattle.audit_judge.proofs.PlaceLaws.{bytes_of}
use Rattle.audit_join.proofs.audits.audit_parts.Goals as goal

pub judge_parts-requires-clause-cut : goal.judge_parts-requires-clause-cut
judge_parts-requires-clause-cut g c κs within =
    subst AreCut (sym c.as_slice.ensures) (cut_so (bytes_of c.args.parts.now) c.in-Ok.frames _ c.in-Ok.ensures c.requires.limit)

pub judge_parts-requires-clause-there : goal.judge_parts-requires-clause-there
judge_parts-requires-clause-there g c κs within fault first =
    first_bad (bytes_of c.args.parts.now) c.in-Ok.frames _ c.in-Ok.ensures fault (ap first_content_fault (sym c.as_slice.ensures) ∙ first)

pub findings_of-requires-clause-joined : goal.findings_of-requires-clause-joined
findings_of-requires-clause-joined g c κs within = (_, c.in-Ok.ensures.0)

pub findings_of-requires-clause-cut : goal.findings_of-requires-clause-cut
findings_of-requires-clause-cut g c κs within = cut_so (bytes_of c.args.parts.now) c.in-Ok.frames _ c.in-Ok.ensures c.requires.limit

pub findings_of-requires-clause-sound : goal.findings_of-requires-clause-sound
findings_of-requires-clause-sound g c κs within = subst AreSound c.as_slice.ensures c.in_ok-judge_parts-in-Ok.ensures.sound

pub judge_parts-requires-in-Err-Bad-clause-cut : goal.judge_parts-requires-in-Err-Bad-clause-cut
judge_parts-requires-in-Err-Bad-clause-cut g c κs within =
    subst AreCut (sym c.as_slice-in-Err-Bad.ensures)
    (cut_so (bytes_of c.args.parts.now) c.in-Err-Bad.before _ (rw c.in-Err-Bad.field-0-is at c.in-Err-Bad.ensures) c.requires.limit)

pub judge_parts-requires-in-Err-Bad-clause-there : goal.judge_parts-requires-in-Err-Bad-clause-there
judge_parts-requires-in-Err-Bad-clause-there g c κs within fault first =
    first_bad (bytes_of c.args.parts.now) c.in-Err-Bad.before _ (rw c.in-Err-Bad.field-0-is at c.in-Err-Bad.ensures) fault
    (ap first_content_fault (sym c.as_slice-in-Err-Bad.ensures) ∙ first)

pub returns-in_ok-findings_of-in-Ok-clause-found : goal.returns-in_ok-findings_of-in-Ok-clause-found
returns-in_ok-findings_of-in-Ok-clause-found g c =
    let sound = subst AreSound c.as_slice.ensures c.in_ok-judge_parts-in-Ok.ensures.sound in
    all_sound (bytes_of c.args.parts.now) c.in-Ok.frames _ c.in-Ok.ensures sound ∙ ap Ok (sym c.in_ok-findings_of-in-Ok.ensures)

pub returns-in_ok-judge_parts-in-Err-Bad-clause-malformed : goal.returns-in_ok-judge_parts-in-Err-Bad-clause-malformed
returns-in_ok-judge_parts-in-Err-Bad-clause-malformed g c =
    all_sound (bytes_of c.args.parts.now) c.in-Err-Bad.before _ (rw c.in-Err-Bad.field-0-is at c.in-Err-Bad.ensures)
    (subst AreSound c.as_slice-in-Err-Bad.ensures c.in_ok-judge_parts-in-Err-Bad.ensures.sound)
