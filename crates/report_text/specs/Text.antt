-- The report on a capture (docs/REPORT.md).
use Rattle.std.specs.Prelude.{ℕ, List, [], ◌∷◌, ◌++◌, codes}
use Rattle.std.specs.List.{flat_map}
use Rattle.std.specs.Fmt.{decimal}
use Rattle.event_core.specs.Events.{EventRead}
use Rattle.audit_findings.specs.declared.findings.Sections.{Sections}
use Rattle.report_text.specs.Line.{ended}
use Rattle.report_text.specs.Section.{lines_of}
use Rattle.report_text.specs.Codes.{codes_section}
use Rattle.report_text.specs.Calls.{calls_section}
use Rattle.report_text.specs.Served.{served_section}
use Rattle.report_text.specs.Strays.{strays_section}
use Rattle.report_text.specs.Refused.{refused_section}
use Rattle.report_text.specs.Handles.{handles_section}
use Rattle.report_text.specs.Nodes.{nodes_section}
use Rattle.report_text.specs.Buffers.{buffers_section}
use Rattle.report_text.specs.Frees.{frees_section}
use Rattle.report_text.specs.Requests.{requests_section}
use Rattle.report_text.specs.Deaths.{deaths_section}
use Rattle.report_text.specs.Clears.{clears_section}
use Rattle.report_text.specs.Oneway.{oneway_section}
use Rattle.report_text.specs.Objects.{objects_section}
use Rattle.report_text.specs.Flags.{flags_section}

-- the title, with the version of the report
abbrev pub title : List ℕ
title = codes "BINDER AUDIT 2"

-- the first line
abbrev pub title_lines : Sections EventRead → List (List ℕ)
title_lines found = title ∷ []

-- the totals: how many frames and records there are, how many of the records are opaque, how many frames are missing
abbrev pub totals : Sections EventRead → List ℕ
totals found =
    codes "frames " ++ decimal found.frames ++ codes " records " ++ decimal found.events.records
    ++ codes " opaque " ++ decimal found.events.opaque ++ codes " missing " ++ decimal found.missing

-- the second line
abbrev pub totals_lines : Sections EventRead → List (List ℕ)
totals_lines found = totals found ∷ []

-- the lines of the report, in order: the first two lines, then the sections
abbrev pub lines_in_order : List (Sections EventRead → List (List ℕ))
lines_in_order =
    title_lines ∷ totals_lines ∷ lines_of codes_section ∷ lines_of calls_section ∷ lines_of served_section
    ∷ lines_of strays_section ∷ lines_of refused_section ∷ lines_of handles_section ∷ lines_of nodes_section
    ∷ lines_of buffers_section ∷ lines_of frees_section ∷ lines_of requests_section ∷ lines_of deaths_section
    ∷ lines_of clears_section ∷ lines_of oneway_section ∷ lines_of objects_section ∷ lines_of flags_section ∷ []

-- the lines of the report, without their line feeds
abbrev pub report_lines : Sections EventRead → List (List ℕ)
report_lines found = flat_map (λ lines. lines found) lines_in_order

-- the text of the report: each of its lines, ended by one line feed
unfoldable pub report_text : Sections EventRead → List ℕ
report_text found = flat_map ended (report_lines found)
