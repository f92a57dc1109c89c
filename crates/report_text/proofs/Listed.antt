-- The lines of a section of which something is kept for each row.
use Rattle.std.proofs.Common.{◌≡◌, ℕ, List, ◌∷◌, length, map, sym, ap, ap₂, subst, ◌∙◌}
use Rattle.std.specs.Prelude.{All, Bool, IsTrue, slice_index_or}
use Rattle.std.specs.List.{AllZip}
use Rattle.std.proofs.lemmas.List.{length-map}
use Rattle.std.proofs.lemmas.List.Elements.{All-map}
use Rattle.binder_code.specs.declared.record_kind.Kind.{Kind}
use Rattle.capture_frame.specs.Envelope.{PlacedFrame}
use Rattle.event_core.specs.Events.{EventRead}
use Rattle.event_core.specs.declared.event.Event.{Event}
use Rattle.audit_findings.specs.Findings.{findings_of}
use Rattle.audit_findings.specs.Lookup.{HasRecordIn, SaysEventAt}
use Rattle.audit_findings.specs.declared.findings.Sections.{Sections}
use Rattle.audit_findings.proofs.RecordsThere.{has_record_in}
use Rattle.report_text.specs.Pushed.{HasRowAt, HaveEvents, IsRowAt, ShowsEvent}
use Rattle.report_text.specs.Section.{SectionText, lines_of}
use Rattle.report_text.proofs.Sections.{IsShownBy, shown_lines}

-- the event that is read again at the place of a row is of the kind of that row
pub row_kind : (kinds : Kind → Bool) (frames : List PlacedFrame) (place : ℕ) (found : Event) → IsRowAt kinds frames place → SaysEventAt frames place found
    → IsTrue (kinds found.kind)
row_kind kinds frames place found row says =
    let at = row.1 in
    subst (λ (kind : Kind). IsTrue (kinds kind)) (sym (ap (λ (e : EventRead). e.kind) (says at.event at.inside at.there))) at.kind

module _ {R K : Type 0} (section : SectionText R) (keep : R → K) (found : Sections EventRead) (kept : List K) (are : kept ≡ map keep (section.rows found)) where
  -- the head, and lines that show what is kept, are those of the section
  pub kept_lines : (Shows : K → List ℕ → Type 0) → All (IsShownBy Shows keep section.line) (section.rows found)
      → (shown : List (List ℕ)) → AllZip Shows kept shown → section.head found (length kept) ∷ shown ≡ lines_of section found
  kept_lines Shows each shown shows =
      ap₂ (λ (l : List ℕ) (ls : List (List ℕ)). l ∷ ls)
      (ap (section.head found) (ap length are ∙ length-map (section.rows found) keep))
      (shown_lines Shows keep section.line kept (section.rows found) shown are each shows)

-- rows that are kept with the places of their records, and are read again
module _ {R K : Type 0} (section : SectionText R) (keep : R → K) (frames : List PlacedFrame) (kept : List K)
    (are : kept ≡ map keep (section.rows (findings_of frames))) (place : K → ℕ) (owner : R → EventRead)
    (same_place : (row : R) → place (keep row) ≡ (owner row).place) (kinds : Kind → Bool) (have : HaveEvents section owner kinds) where
  abbrev rows : List R
  rows = section.rows (findings_of frames)

  -- a record of the frames begins at the place of each row, and it is of one of these kinds
  pub listed_rows : All (λ k. IsRowAt kinds frames (place k)) kept
  listed_rows =
      let P : K → Type 0 = λ k. IsRowAt kinds frames (place k) in
      let each : All P (map keep rows) =
      All-map P keep rows
      (λ j s inside.
      let here = have frames j s inside in
      let begins = subst (HasRecordIn frames) (sym (same_place _)) (has_record_in frames _ here.0) in
      let at : HasRowAt kinds frames (place (keep (slice_index_or rows j s))) = record {
        event = owner (slice_index_or rows j s);
        inside = here.0;
        there = sym (same_place _);
        kind = here.1;
      } in
      (begins, at)) in
      subst (All P) (sym are) each

  pub listed_lines : (made : K → EventRead → List ℕ) → ((row : R) → made (keep row) (owner row) ≡ section.line row) → (shown : List (List ℕ))
      → AllZip (λ k line. ShowsEvent (made k) frames (place k) line) kept shown
      → section.head (findings_of frames) (length kept) ∷ shown ≡ lines_of section (findings_of frames)
  listed_lines made makes =
      kept_lines section keep (findings_of frames) kept are (λ k line. ShowsEvent (made k) frames (place k) line)
      (λ j s inside line here. here _ (have frames j s inside).0 (sym (same_place _)) ∙ makes _)
