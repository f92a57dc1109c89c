-- The lines of the section `objects` (docs/REPORT.md).
use Rattle.std.specs.Prelude.{ℕ, List, ◌++◌, codes}
use Rattle.std.specs.Fmt.{decimal}
use Rattle.object_view.specs.declared.bad_object.Cause.{Cause}
use Rattle.object_view.specs.declared.bad_object.Cause.TheVariants.{ListLength, Misaligned, Overlap, Short, UnknownSort}
use Rattle.audit_findings.specs.declared.sort_counts.SortCounts.{SortCounts}
use Rattle.event_core.specs.Events.{EventRead}
use Rattle.audit_findings.specs.declared.objects.BadRow.{BadRow}
use Rattle.report_text.specs.EventRow.{row_start}
use Rattle.report_text.specs.Section.{SectionText}

-- the head: how many good objects of each sort there are, and how many bad ones
abbrev pub objects_head : SortCounts → ℕ → List ℕ
objects_head counts bad =
    codes "objects binder " ++ decimal counts.binder ++ codes " weak_binder " ++ decimal counts.weak_binder
    ++ codes " handle " ++ decimal counts.handle ++ codes " weak_handle " ++ decimal counts.weak_handle
    ++ codes " fd " ++ decimal counts.fd ++ codes " fda " ++ decimal counts.fda
    ++ codes " ptr " ++ decimal counts.ptr ++ codes " bad " ++ decimal bad

-- the name of a cause, as it is printed
abbrev pub cause_name : Cause → List ℕ
cause_name ListLength = codes "ListLength"
cause_name Misaligned = codes "Misaligned"
cause_name Overlap = codes "Overlap"
cause_name Short = codes "Short"
cause_name UnknownSort = codes "UnknownSort"

-- a row: place, device and process of the record that owns the attachment; index, offset, cause
abbrev pub objects_row : BadRow EventRead → List ℕ
objects_row row =
    row_start row.owner ++ codes " " ++ decimal row.bad.index ++ codes " " ++ decimal row.bad.offset
    ++ codes " " ++ cause_name row.bad.cause

-- the section: its head, and a row for each bad object
abbrev pub objects_section : SectionText (BadRow EventRead)
objects_section = record {
  head = λ found rows. objects_head found.events.objects rows;
  rows = λ found. found.events.bad_objects;
  line = objects_row;
}
