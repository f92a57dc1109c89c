-- The section `codes`: how many records have each code word (docs/REPORT.md).
use Rattle.std.specs.Prelude.{ℕ, ◌==◌, Bool, true, false, List, map, count_by}
use Rattle.std.specs.Ordering.{nat_cmp}
use Rattle.summary_law.specs.Sorted.{sorted}
use Rattle.binder_code.specs.declared.record_kind.Kind.{Kind}
use Rattle.binder_code.specs.declared.record_kind.Kind.TheVariants.{Opaque}
use Rattle.event_core.specs.Events.{EventRead}
use Rattle.audit_findings.specs.declared.codes.CodeRow.{CodeRow}

-- whether the kind is that of opaque records, whose number the header does not list
abbrev pub is_opaque_kind : Kind → Bool
is_opaque_kind Opaque = true
is_opaque_kind _ = false

-- whether the record of an event is opaque
abbrev pub is_opaque : EventRead → Bool
is_opaque e = is_opaque_kind e.kind

-- the code words of these events, in their order
abbrev pub code_words : List EventRead → List ℕ
code_words events = map (λ e. e.code) events

-- the row of a code word: the word, and how often it is among these
abbrev pub code_row : List ℕ → ℕ → CodeRow
code_row words word = record { word = word; count = count_by (λ other. other == word) words }

-- the section: a row for each different code word, the words rising
abbrev pub code_rows : List ℕ → List CodeRow
code_rows words = map (code_row words) (sorted nat_cmp words)
