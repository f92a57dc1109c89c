-- The rows of things by their numbers, with one more.
use Rattle.std.proofs.Common.{◌≡◌, ℕ, ◌+◌, List, [], ◌∷◌, ◌++◌, length, length-take, take, Option, Some, slice_get, ap, sym, subst, ◌∙◌, arith}
use Rattle.std.proofs.lemmas.List.{take_more}
use Rattle.std.proofs.lemmas.Option.{get_or_from_slice_get, slice_get_within}
use Rattle.std.specs.Io.KnownBytes.{Appends}
use Rattle.listing_tables.proofs.WalkLaws.{more_rows, one_row}
use Rattle.listing_tables.specs.Columns.{IsThisRow, WritesRows, number_at, numbered_rows, row_bytes, rows_from}
use Rattle.listing_tables.specs.declared.rows.Column.{Column}

module _ {A : Type 0} (row : ℕ → A → List Column) where
  -- one more thing has the row after those before
  one_more : (n : ℕ) (before : List A) (thing : A)
      → rows_from row n (before ++ thing ∷ []) ≡ rows_from row n before ++ row (number_at (n + length before)) thing ∷ []
  one_more n [] thing =
      let here : n ≡ n + 0 = omega arith in
      ap (λ (k : ℕ). row (number_at k) thing ∷ []) here
  one_more n (first ∷ before) thing =
      let here : n + 1 + length before ≡ n + length (first ∷ before) = omega arith in
      ap (λ rows. row (number_at n) first ∷ rows)
      (one_more (n + 1) before thing
      ∙ ap (λ (k : ℕ). rows_from row (n + 1) before ++ row (number_at k) thing ∷ []) here)

  -- the rows of the first things are written, and then that of the next one
  pub numbered_more : (a b c : Option (List ℕ)) (things : List A) (i : ℕ) (thing : A) (columns : List Column)
      → slice_get things i ≡ Some thing → WritesRows a b (numbered_rows row (take i things)) → columns ≡ row (number_at i) thing
      → Appends b c (row_bytes columns) → WritesRows a c (numbered_rows row (take (i + 1) things))
  numbered_more a b c things i thing columns here before is added =
      let within = slice_get_within things i thing here in
      let so_far = take i things in
      let more : take (i + 1) things ≡ so_far ++ thing ∷ []
      = take_more things i thing within ∙ ap (λ x. so_far ++ x ∷ []) (get_or_from_slice_get things i thing thing here) in
      let long : 0 + length so_far ≡ i = omega (arith, within, length-take i things) in
      let rows : numbered_rows row (take (i + 1) things) ≡ numbered_rows row so_far ++ row (number_at i) thing ∷ []
      = ap (numbered_rows row) more ∙ one_more 0 so_far thing
      ∙ ap (λ n. numbered_rows row so_far ++ row (number_at n) thing ∷ []) long in
      subst (WritesRows a c) (sym rows)
      (more_rows IsThisRow a b c (numbered_rows row so_far) (row (number_at i) thing ∷ []) before
      (one_row IsThisRow b c (row (number_at i) thing) columns is added))
