-- The lines of the section `codes` (docs/REPORT.md).
use Rattle.std.specs.Prelude.{ℕ, List, ◌++◌, codes}
use Rattle.std.specs.Fmt.{decimal}
use Rattle.binder_code.specs.Commands.{kind_of_word, name_of}
use Rattle.audit_findings.specs.declared.codes.CodeRow.{CodeRow}
use Rattle.report_text.specs.Line.{hex_word}
use Rattle.report_text.specs.Section.{SectionText}

-- the head: how many different code words there are
abbrev pub codes_head : ℕ → List ℕ
codes_head different = codes "codes " ++ decimal different

-- a row: code word, name, count
abbrev pub codes_row : CodeRow → List ℕ
codes_row row =
    codes "  " ++ hex_word row.word ++ codes " " ++ name_of (kind_of_word row.word) ++ codes " "
    ++ decimal row.count

-- the section: its head, and a row for each different code word
abbrev pub codes_section : SectionText CodeRow
codes_section = record { head = λ found rows. codes_head rows; rows = λ found. found.events.codes; line = codes_row }
