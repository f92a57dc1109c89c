-- The count and the sum of the weights of each key, over a list of pairs of a key and a weight.
use Rattle.std.specs.Prelude.{◌≡◌, ℕ, ◌<◌, true, List, length, map, sum, All}
use Rattle.std.specs.List.{list_any}
use Rattle.std.specs.List.Sorted.{IsStrictlySortedBy}
use Rattle.std.specs.Map.{keys_of}
use Rattle.std.specs.Ordering.{eq_by_cmp}
use Rattle.std.specs.declared.cmp.Ordering.{Ordering}
use Rattle.summary_law.specs.declared.amount.Amount.{Amount}
use Rattle.summary_law.specs.declared.tally.Tally.{Tally}
use Rattle.summary_law.specs.Amount.{IsAmount}
use Rattle.summary_law.specs.ByKey.{items_of, SumsByKey}
use Rattle.summary_law.specs.Sorted.{sorted}

-- how many items the key has
abbrev pub count_of_key : {K : Type 0} → (K → K → Ordering) → K → List (K × ℕ) → ℕ
count_of_key cmp key items = length (items_of (eq_by_cmp cmp) key items)

-- the sum of the weights of the key
abbrev pub sum_of : {K : Type 0} → (K → K → Ordering) → K → List (K × ℕ) → ℕ
sum_of cmp key items = sum (items_of (eq_by_cmp cmp) key items)

-- the row of a key: the key, how many items it has, and the sum of their weights
abbrev pub tally_row : {K : Type 0} → (K → K → Ordering) → List (K × ℕ) → K → K × ℕ × ℕ
tally_row cmp items key = (key, count_of_key cmp key items, sum_of cmp key items)

-- a row for each key that has items, in rising order of the keys
abbrev pub tally_rows : {K : Type 0} → (K → K → Ordering) → List (K × ℕ) → List (K × ℕ × ℕ)
tally_rows cmp items = map (tally_row cmp items) (sorted cmp (keys_of items))

-- the keys that have items, each once and in rising order
pub record AreKeys {K : Type 0} (cmp : K → K → Ordering) (items : List (K × ℕ)) (keys : List K) : Type 0 where
  pub rising : IsStrictlySortedBy cmp keys
  pub came : All (λ key. 0 < count_of_key cmp key items) keys
  pub whole : (key : K) → 0 < count_of_key cmp key items → list_any (eq_by_cmp cmp key) keys ≡ true

-- the row has the count and the sum of its key
pub record IsTallyRow {K : Type 0} (cmp : K → K → Ordering) (items : List (K × ℕ)) (row : K × ℕ × ℕ) : Type 0 where
  pub count : row.1 ≡ count_of_key cmp row.0 items
  pub sum : row.2 ≡ sum_of cmp row.0 items

-- a row for each key that has items, in rising order of the keys, each with the count and the sum of its key
pub record AreTallyRows {K : Type 0} (cmp : K → K → Ordering) (items : List (K × ℕ)) (rows : List (K × ℕ × ℕ)) :
    Type 0 where
  pub keys : AreKeys cmp items (map (λ row. row.0) rows)
  pub right : All (IsTallyRow cmp items) rows

-- the tally has the number of items and the sum of the weights of each key that has items, and of no other key
abbrev pub TallySums : {K : Type 0} → (K → K → Ordering) → Tally K → List (K × ℕ) → Type 0
TallySums cmp tally items = SumsByKey cmp IsAmount tally.amounts items

-- for whatever items the tally sums, these are the rows
abbrev pub GivesRows : {K : Type 0} → (K → K → Ordering) → Tally K → List (K × ℕ × ℕ) → Type 0
GivesRows {K} cmp tally rows = (items : List (K × ℕ)) → TallySums cmp tally items → AreTallyRows cmp items rows

-- for whatever items the tally sums, this is the count and the sum of the key
abbrev pub GivesAmount : {K : Type 0} → (K → K → Ordering) → Tally K → K → Amount → Type 0
GivesAmount {K} cmp tally key amount =
    (items : List (K × ℕ)) → TallySums cmp tally items → IsTallyRow cmp items (key, amount.count, amount.sum)
