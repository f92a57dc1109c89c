-- How large the mask of a row is.
use Rattle.std.proofs.Common.{ℕ, suc, zero, ◌^◌, ◌<◌, ◌≤◌, List, [], ◌∷◌, length, arith}
use Rattle.listing_tables.specs.Columns.{mask_of}
use Rattle.listing_tables.specs.declared.rows.Column.{Column}
use Rattle.listing_tables.specs.declared.rows.Column.TheVariants.{Null, Number, Text}

-- the mask of n columns has at most n bits
pub mask_fits : (n : ℕ) (columns : List Column) → length columns ≤ n → mask_of columns < 2 ^ n
mask_fits zero [] few = omega arith
mask_fits (suc n) [] few = let half = mask_fits n [] (omega arith) in omega (arith, half)
mask_fits zero (column ∷ columns) few = absurd (omega (arith, few))
mask_fits (suc n) (Null ∷ columns) few = let half = mask_fits n columns (omega (arith, few)) in omega (arith, half)
mask_fits (suc n) (Number number ∷ columns) few = let half = mask_fits n columns (omega (arith, few)) in omega (arith, half)
mask_fits (suc n) (Text text ∷ columns) few = let half = mask_fits n columns (omega (arith, few)) in omega (arith, half)
