use Rattle.std.proofs.Common.{◌≡◌, List, ◌++◌, map, IsPermutation, ap, ap₂, subst, ◌∙◌, rules}
use Rattle.std.proofs.lemmas.List.Sorted.{IsNonDecreasingBy-from_sort_by_key}
use Rattle.audit_findings.specs.declared.codes.CodeRow.{CodeRow}
use Rattle.audit_findings.specs.CodeCounts.{listed_rows, row_of}
use Rattle.audit_findings.proofs.OpaqueWords.{opaque_items}
use Rattle.audit_findings.proofs.CodeLaws.{sorted_code_rows}
use Rattle.audit_findings.proofs.code_counts.CodeCounts.rows.Goals as goal

pub returns : goal.returns
returns c words sums =
    let tallied = c.in_ok-tallied.tallied.items in
    let sorted = c.sort_unstable_by_key.new.self.items in
    let listed : c.push_listed.new.rows.items ≡ listed_rows words
    = c.in_ok-push_listed.ensures words sums.listed ∙ ap (λ (rows : List CodeRow). rows ++ listed_rows words) c.new-rows.ensures.items in
    let whole : c.push_opaque.new.rows.items ≡ listed_rows words ++ map row_of tallied
    = c.in_ok-push_opaque.ensures ∙ ap₂ ◌++◌ listed (ap (map row_of) c.as_slice.ensures.value) in
    sorted_code_rows words tallied (c.in_ok-tallied.ensures (opaque_items words) sums.opaque) sorted
    (subst (λ (rows : List CodeRow). IsPermutation rows sorted) whole c.sort_unstable_by_key.ensures.permutation)
    (IsNonDecreasingBy-from_sort_by_key (λ (row : CodeRow). row.word) _ c.sort_unstable_by_key.ensures.sorted (λ a r q k. search rules))
