-- What the rows of the raw tables have in their columns, and the bytes of a row (docs/DATABASE.md).
use Rattle.std.specs.Prelude.{◌≡◌, ℕ, ◌+◌, ◌*◌, Bool, true, false, List, [], ◌∷◌, ◌++◌, length, Option, Some, None}
use Rattle.std.specs.Int.{w64, to_le_bytes}
use Rattle.std.specs.Io.KnownBytes.{Appends}
use Rattle.std.specs.List.{AllZip, flat_map}
use Rattle.listing_tables.specs.declared.rows.Column.{Column}
use Rattle.listing_tables.specs.declared.rows.Column.TheVariants.{Null, Number, Text}

-- a number that a row may have
abbrev pub column_of : Option ℕ → Column
column_of None = Null
column_of (Some number) = Number number

-- which columns are not NULL: a bit for each, the lowest for the first
abbrev pub mask_of : List Column → ℕ
mask_of [] = 0
mask_of (Null ∷ columns) = 2 * mask_of columns
mask_of (Number number ∷ columns) = 2 * mask_of columns + 1
mask_of (Text text ∷ columns) = 2 * mask_of columns + 1

-- the bytes of a column: those of a number, or the length of a text and the text
abbrev pub column_bytes : Column → List ℕ
column_bytes Null = []
column_bytes (Number number) = to_le_bytes w64 number
column_bytes (Text text) = to_le_bytes w64 (length text.now) ++ text.now

-- the bytes of a row with this mask and these columns
abbrev pub masked_bytes : ℕ → List Column → List ℕ
masked_bytes mask columns = to_le_bytes w64 mask ++ flat_map column_bytes columns

-- the bytes of a row with these columns
abbrev pub row_bytes : List Column → List ℕ
row_bytes columns = masked_bytes (mask_of columns) columns

-- A writer has grown by a row of each of these things, in order, and by nothing else. `IsRow` says what the row of a
-- thing has.
pub record AddsRows {A : Type 0} (IsRow : A → List Column → Type 0) (old new : Option (List ℕ)) (things : List A) : Type 0 where
  pub rows : List (List Column)
  pub are_rows : AllZip IsRow things rows
  pub are : Appends old new (flat_map row_bytes rows)

-- it is this row
abbrev pub IsThisRow : List Column → List Column → Type 0
IsThisRow row other = other ≡ row

-- a writer has grown by these rows, in order, and by nothing else
abbrev pub WritesRows : Option (List ℕ) → Option (List ℕ) → List (List Column) → Type 0
WritesRows old new rows = AddsRows IsThisRow old new rows

-- the number of the row at an index: 1 for the first
abbrev pub number_at : ℕ → ℕ
number_at index = index + 1

-- the rows of things, each made by its number; the first has that of the index n
abbrev pub rows_from : {A : Type 0} → (ℕ → A → List Column) → ℕ → List A → List (List Column)
rows_from row n [] = []
rows_from row n (thing ∷ later) = row (number_at n) thing ∷ rows_from row (n + 1) later

-- the rows of all things, by their numbers
abbrev pub numbered_rows : {A : Type 0} → (ℕ → A → List Column) → List A → List (List Column)
numbered_rows row things = rows_from row 0 things

-- a column that says whether something is so
abbrev pub bit : Bool → ℕ
bit true = 1
bit false = 0
