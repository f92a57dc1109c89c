use Rattle.std.proofs.Common.{ℕ, ◌≤◌, List, [], ◌∷◌, ◌++◌, length, map, ap, sym, subst, ◌∙◌}
use Rattle.std.specs.Prelude.{All}
use Rattle.std.specs.List.{flat_map}
use Rattle.arrayvec.specs.ArrayString.{ArrayString}
use Rattle.audit_findings.specs.Findings.{findings_of}
use Rattle.report_text.specs.Text.{report_lines}
use Rattle.report_text.proofs.Sections.{taken, taken_all, one_by_one, unmapped}
use Rattle.report_text.proofs.report.rows.Goals as goal

abbrev bytes : ArrayString → List ℕ
bytes row = row.bytes

pub returns-clause-lines : goal.returns-clause-lines
returns-clause-lines g c =
    let lines = report_lines (findings_of c.args.found.now) in
    taken _ (λ (rows : _). map bytes rows.items) (λ line. line ∷ []) (λ old new line takes. takes.1) c.new-rows.result c.push_report.new.lines lines
    c.in_ok-push_report.ensures.taken
    ∙ ap (λ (rows : List ArrayString). map bytes rows ++ flat_map (λ line. line ∷ []) lines) c.new-rows.ensures.items
    ∙ one_by_one lines

pub returns-clause-short : goal.returns-clause-short
returns-clause-short g c =
    let Short : List ℕ → Type 0 = λ line. length line ≤ 256 in
    unmapped bytes Short c.push_report.new.lines.items
    (subst (All Short) (sym (returns-clause-lines g c))
    (taken_all _ Short (λ old new line takes. takes.0) c.new-rows.result c.push_report.new.lines (report_lines (findings_of c.args.found.now))
    c.in_ok-push_report.ensures.taken))
