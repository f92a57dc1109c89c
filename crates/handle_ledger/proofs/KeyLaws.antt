-- The count of the items of each key of a list is the count over all items, in which items of other keys keep it.
use Rattle.std.proofs.Common.{◌≡◌, ℤ, true, false, cond, List, [], ◌∷◌, map, Some, None, refl, sym, ap, subst, ◌∙◌}
use Rattle.std.specs.Option.{option_map_or}
use Rattle.std.specs.Ordering.{eq_by_cmp}
use Rattle.std.specs.declared.cmp.Ordering.{Ordering}
use Rattle.handle_ledger.specs.Nodes.{IsSumOf}
use Rattle.handle_ledger.specs.Rows.{change_at}
use Rattle.summary_law.proofs.CountLaws.{counted, read_counts, same_total}
use Rattle.summary_law.specs.ByKey.{under, items_of}
use Rattle.summary_law.specs.Count.{Change, count_of, keeps, total, IsCount, IsCountOf, change_read}
use Rattle.summary_law.specs.declared.count.Count.{Count}

module _ {K I : Type 0} (cmp : K → K → Ordering) (change : I → Change) (key : K) where
  same_changes : (items : List (K × I)) → map (change_read (under (eq_by_cmp cmp) key) change) items ≡ map (change_at cmp change key) items
  same_changes [] = refl
  same_changes (i ∷ is) =
      elim (eq_by_cmp cmp key i.0)
      as (λ b. option_map_or change (cond b (Some i.1) None) keeps ∷ map (change_read (under (eq_by_cmp cmp) key) change) is
      ≡ cond b (change i.1) keeps ∷ map (change_at cmp change key) is) [
        | true ↦ ap (λ (rest : List Change). change i.1 ∷ rest) (same_changes is)
        | false ↦ ap (λ (rest : List Change). keeps ∷ rest) (same_changes is)
      ]

  -- the count of the items of a key, and their sum, are those of all items
  pub counted_at : (count : Count) (items : List (K × I)) → IsCountOf change count (items_of (eq_by_cmp cmp) key items)
      → count ≡ count_of (map (change_at cmp change key) items)
  counted_at count items counts =
      counted count (map (change_at cmp change key) items)
      (subst (λ (changes : List Change). IsCount count changes) (same_changes items) (read_counts (under (eq_by_cmp cmp) key) change count items counts))

  pub sum_at : (sum : ℤ) (items : List (K × I)) → IsSumOf change sum (items_of (eq_by_cmp cmp) key items)
      → sum ≡ total (map (change_at cmp change key) items)
  sum_at sum items sums = sums ∙ sym (same_total (under (eq_by_cmp cmp) key) change items) ∙ ap total (same_changes items)
