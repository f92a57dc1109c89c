-- The rows of a map of amounts.
use Rattle.std.proofs.Common.{◌≡◌, ℕ, ◌<◌, true, List, [], ◌∷◌}
use Rattle.std.proofs.Common.{length, map, Option, Some, None, is_some, refl, sym, ap, ap₂, subst, ◌∙◌, arith}
use Rattle.std.proofs.lemmas.Cmp.{eq_by_cmp_equiv}
use Rattle.std.proofs.lemmas.List.Elements.{All-contains, All-map, All-weaker}
use Rattle.std.proofs.lemmas.Map.Made.{is_some-lookup}
use Rattle.std.proofs.lemmas.Map.Views.{All-found}
use Rattle.std.specs.BTreeMap.{BTreeMap, IsOrdered, get}
use Rattle.std.specs.Cmp.{IsTotalOrder}
use Rattle.std.specs.Map.{keys_of}
use Rattle.std.specs.Ordering.{eq_by_cmp}
use Rattle.std.specs.declared.cmp.Ordering.{Ordering}
use Rattle.std.specs.declared.cmp.Ordering.TheVariants.{Equal}
use Rattle.summary_law.proofs.GatherLaws.{has_own}
use Rattle.summary_law.proofs.Members.{In, contained, in-map}
use Rattle.summary_law.proofs.SortedLaws.{found_in, has_pair, rows_are}
use Rattle.summary_law.specs.ByKey.{items_of, IsOwn, SumsByKey}
use Rattle.summary_law.specs.Amount.{IsAmount}
use Rattle.summary_law.specs.Tally.{count_of_key, tally_row, tally_rows, AreKeys, IsTallyRow, AreTallyRows}
use Rattle.summary_law.specs.declared.amount.Amount.{Amount}

abbrev pub row_of : {K : Type 0} → K × Amount → K × ℕ × ℕ
row_of e = (e.0, e.1.count, e.1.sum)

keys_of_rows : {K : Type 0} (es : List (K × Amount)) → map (λ (r : K × ℕ × ℕ). r.0) (map row_of es) ≡ keys_of es
keys_of_rows [] = refl
keys_of_rows (e ∷ es) = ap (λ t. e.0 ∷ t) (keys_of_rows es)

some_came : (weights : List ℕ) (found : Option Amount) → IsOwn IsAmount found weights → 0 < length weights → is_some found ≡ true
some_came weights None part h = absurd (let none = ap length part in omega arith)
some_came weights (Some amount) part h = refl

came : {I : Type 0} (items : List I) → (items ≡ [] → ⊥) → 0 < length items
came [] some = absurd (some refl)
came (i ∷ is) some = omega arith

module _ {K : Type 0} (cmp : K → K → Ordering) (laws : IsTotalOrder cmp) (m : BTreeMap K Amount) (ordered : IsOrdered cmp m)
    (items : List (K × ℕ)) (sums : SumsByKey cmp IsAmount m items) where
  entry_part : (e : K × Amount) → get cmp m e.0 ≡ Some e.1 → IsOwn IsAmount (Some e.1) (items_of (eq_by_cmp cmp) e.0 items)
  entry_part e found = subst (λ (o : Option Amount). IsOwn IsAmount o (items_of (eq_by_cmp cmp) e.0 items)) found (sums e.0)

  -- the map's keys are the keys that have items
  pub map_keys : AreKeys cmp items (keys_of m.entries)
  map_keys = record {
    rising = ordered;
    came = All-map (λ key. 0 < count_of_key cmp key items) (λ (e : K × Amount). e.0) m.entries
        (All-weaker (λ (e : K × Amount). get cmp m e.0 ≡ Some e.1) (λ e. 0 < count_of_key cmp e.0 items)
        (λ e found. came (items_of (eq_by_cmp cmp) e.0 items) (entry_part e found).0) m.entries (All-found laws m ordered));
    whole = λ key h.
        sym (is_some-lookup (eq_by_cmp cmp key) m.entries) ∙ some_came (items_of (eq_by_cmp cmp) key items) (get cmp m key) (sums key) h;
  }

  -- the rows made of the map's entries are the rows of the items
  pub map_rows : (rows : List (K × ℕ × ℕ)) → rows ≡ map row_of m.entries → AreTallyRows cmp items rows
  map_rows rows are = rw are (record {
    keys = subst (AreKeys cmp items) (sym (keys_of_rows m.entries)) map_keys;
    right = All-map (IsTallyRow cmp items) row_of m.entries
        (All-weaker (λ (e : K × Amount). get cmp m e.0 ≡ Some e.1) (λ e. IsTallyRow cmp items (row_of e))
        (λ e found.
        let part = entry_part e found in
        record { count = part.1.count; sum = part.1.sum })
        m.entries (All-found laws m ordered));
  })

-- ---- if keys that compare as equal are equal, these are the rows of a tally

module _ {K : Type 0} (cmp : K → K → Ordering) (laws : IsTotalOrder cmp) (exact : (x y : K) → cmp x y ≡ Equal → x ≡ y) (items : List (K × ℕ))
    (rows : List (K × ℕ × ℕ)) (are : AreTallyRows cmp items rows) where
  row_made : (row : K × ℕ × ℕ) → In row rows → row ≡ tally_row cmp items row.0
  row_made row there =
      let is = All-contains (IsTallyRow cmp items) rows row are.right (contained rows row there) in
      ap₂ (λ (count sum : ℕ). let made : K × ℕ × ℕ = (row.0, count, sum) in made) is.count is.sum

  pub tally_is : rows ≡ tally_rows cmp items
  tally_is =
      let keys = map (λ (row : K × ℕ × ℕ). row.0) rows in
      rows_are cmp laws exact (λ row. row.0) (tally_row cmp items) (keys_of items) rows are.keys.rising row_made
      (λ key there.
      let some = All-contains (λ key. 0 < count_of_key cmp key items) keys key are.keys.came (contained keys key there) in
      has_pair cmp exact key items (λ none. let empty = ap length none in absurd (omega (arith, some, empty))))
      (λ key there.
      let pair = in-map (λ (e : K × ℕ). e.0) items key there in
      found_in cmp exact key keys
      (are.keys.whole key
      (subst (λ (k : K). 0 < count_of_key cmp k items) (sym pair.2) (came (items_of (eq_by_cmp cmp) pair.0.0 items) (has_own (eq_by_cmp_equiv laws) items pair.0 pair.1)))))
