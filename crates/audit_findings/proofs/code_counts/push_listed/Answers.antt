use Rattle.std.proofs.Common.{◌<◌, ℕ, List, [], ◌∷◌, ◌++◌, filter, get_or, length, map, take, ap, ap₂, append_assoc, arith, sym, ◌∙◌}
use Rattle.std.proofs.lemmas.List.{get_or-map, length-map, map_more}
use Rattle.std.proofs.lemmas.List.Elements.{filter-append}
use Rattle.binder_code.specs.declared.record_kind.Line.{Line}
use Rattle.audit_findings.specs.declared.codes.CodeRow.{CodeRow}
use Rattle.audit_findings.specs.CodeCounts.{count_of, has_records, listed_words}
use Rattle.audit_findings.specs.Codes.{code_row}
use Rattle.audit_findings.proofs.LineCounts.{lines_long}
use Rattle.audit_findings.proofs.code_counts.push_listed.Goals as goal

pub bounds-counts-place : goal.bounds-counts-place
bounds-counts-place c =
    let words = ap length c.all-line-items.ensures.words in
    let long = length-map c.all-line-items.result.now (λ (line : Line). line.word) in
    let inside = c.loop-place-test.true in
    let all = lines_long in
    omega (arith, words, long, inside, all)

pub loop-place-preserved : goal.loop-place-preserved
loop-place-preserved c words sums =
    let lines = c.all-line-items.result.now in
    let place = c.loop-place.place in
    let long = ap length c.all-line-items.ensures.words in
    let same = length-map lines (λ (line : Line). line.word) in
    let within = c.loop-place-test.true in
    let inside : place < length listed_words = omega (arith, long, same, within) in
    let pushed : ℕ → ℕ → List CodeRow = λ word count. filter has_records (let row : CodeRow = record { word = word; count = count } in row ∷ []) in
    let before = filter has_records (map (code_row words) (take place listed_words)) in
    c.in_ok-push_counted.ensures
    ∙ ap₂ ◌++◌ (c.loop-place.invariant words sums)
    (ap₂ pushed
    (sym (get_or-map (λ (line : Line). line.word) lines place _ 0 within) ∙ ap (λ (listed : List ℕ). get_or listed place 0) c.all-line-items.ensures.words)
    (ap (λ (counts : List ℕ). get_or counts place 0) sums ∙ get_or-map (count_of words) listed_words place 0 0 inside))
    ∙ append_assoc c.args.rows.now.items before (filter has_records (code_row words (get_or listed_words place 0) ∷ []))
    ∙ ap (λ (rows : List CodeRow). c.args.rows.now.items ++ rows)
    (sym
    (ap (filter has_records) (map_more (code_row words) listed_words place 0 inside)
    ∙ filter-append has_records (map (code_row words) (take place listed_words)) (code_row words (get_or listed_words place 0) ∷ [])))
