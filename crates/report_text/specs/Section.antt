-- A section of the report: a head, and then a line for each of its rows (docs/REPORT.md).
use Rattle.std.specs.Prelude.{ℕ, List, ◌∷◌, length, map}
use Rattle.event_core.specs.Events.{EventRead}
use Rattle.audit_findings.specs.declared.findings.Sections.{Sections}

-- a section: its head, given how many rows it has; its rows; and the line of a row
pub record SectionText (Row : Type 0) : Type 0 where
  pub head : Sections EventRead → ℕ → List ℕ
  pub rows : Sections EventRead → List Row
  pub line : Row → List ℕ

-- the lines of a section: its head, then the line of each row
abbrev pub lines_of : {Row : Type 0} → SectionText Row → Sections EventRead → List (List ℕ)
lines_of section found = section.head found (length (section.rows found)) ∷ map section.line (section.rows found)
