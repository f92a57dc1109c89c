use Rattle.std.proofs.Common.{◌≡◌, sym, ◌∙◌}
use Rattle.std.proofs.lemmas.List.{map-id}
use Rattle.audit_findings.specs.Findings.{findings_of}
use Rattle.report_text.proofs.Listed.{kept_lines}
use Rattle.report_text.proofs.whole_rows.OfRowsSection.rows.Goals as goal

pub returns-clause-told : goal.returns-clause-told
returns-clause-told g c =
    let section = g.S.WholeSection.section in
    kept_lines section (λ row. row) (findings_of c.args.found.now) c.rows.result.now (c.rows.ensures ∙ sym (map-id (section.rows (findings_of c.args.found.now))))
    (λ row line. line ≡ section.line row) (λ k d within line is. is)
