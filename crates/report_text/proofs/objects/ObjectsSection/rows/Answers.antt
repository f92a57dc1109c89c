use Rattle.std.proofs.Common.{◌≡◌, ℕ, map, true, refl, ap, ◌∙◌}
use Rattle.audit_findings.specs.Findings.{findings_of}
use Rattle.audit_findings.specs.Kept.{bad_at_place}
use Rattle.audit_findings.specs.declared.findings.Sections.{Sections}
use Rattle.audit_findings.specs.declared.objects.BadRow.{BadRow}
use Rattle.report_text.specs.Objects.{objects_row, objects_section}
use Rattle.report_text.proofs.Listed.{listed_lines, listed_rows}
use Rattle.audit_findings.proofs.RowsThere.{owners_there}
use Rattle.report_text.proofs.objects.ObjectsSection.rows.Goals as goal

kept : (c : goal.After-as_slice) → c.as_slice.result.now ≡ map bad_at_place (objects_section.rows (findings_of c.args.found.now))
kept c = c.as_slice.ensures ∙ ap (λ (s : Sections ℕ). s.events.bad_objects) c.sections.ensures

pub returns-clause-readable : goal.returns-clause-readable
returns-clause-readable c =
    listed_rows objects_section bad_at_place c.args.found.now c.as_slice.result.now (kept c) (λ row. row.owner) (λ b. b.owner) (λ b. refl)
    (λ _. true) owners_there

pub returns-clause-told : goal.returns-clause-told
returns-clause-told c =
    listed_lines objects_section bad_at_place c.args.found.now c.as_slice.result.now (kept c) (λ row. row.owner) (λ b. b.owner) (λ b. refl)
    (λ _. true) owners_there (λ (row : BadRow ℕ) e. objects_row (record { owner = e; bad = row.bad })) (λ b. refl)
