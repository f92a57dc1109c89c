use Rattle.std.proofs.Common.{ℕ, List, IsPermutation, sym, subst, ◌∙◌}
use Rattle.std.proofs.lemmas.List.Folds.{flat_map-map}
use Rattle.audit_findings.proofs.HandleRows.{items_in, lists_of}
use Rattle.audit_findings.proofs.EventLists.{lists_sorted}
use Rattle.audit_findings.proofs.places.gathered.Goals as goal

pub returns : goal.returns
returns g c = λ frames rise are.
    let lists = c.args.lists.now in
    let sorted = c.sort_unstable.new.self.items in
    let joined = c.in_ok-places.ensures ∙ sym (flat_map-map (λ (own : List ℕ). own) items_in lists) in
    lists_sorted g.L.ListsPlaces.test frames rise (lists_of lists) are sorted
    (subst (λ (ps : List ℕ). IsPermutation ps sorted) joined c.sort_unstable.ensures.permutation) c.sort_unstable.ensures.sorted
