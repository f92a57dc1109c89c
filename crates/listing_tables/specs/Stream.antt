-- The stream of rows of which `./listing` makes its lines (docs/DATABASE.md).
use Rattle.std.specs.Prelude.{◌≡◌, ℕ, ◌+◌, ◌*◌, ◌^◌, if◌then◌else◌, Bool, true, false, List, [], ◌∷◌, ◌++◌, drop, Option, option_map}
use Rattle.std.specs.Io.KnownBytes.{Appends}
use Rattle.std.specs.List.{AllZip, flat_map}
use Rattle.listing_tables.specs.Columns.{column_of, mask_of, masked_bytes}
use Rattle.listing_tables.specs.Walk.{BeginsWith}
use Rattle.listing_tables.specs.declared.ending.Ending.{Ending}
use Rattle.listing_tables.specs.declared.rows.Column.{Column}
use Rattle.listing_tables.specs.declared.rows.Column.TheVariants.{Number}
use Rattle.listing_tables.specs.declared.rows.Sort.{Sort}
use Rattle.listing_tables.specs.declared.rows.Sort.TheVariants.{Thread, Interface, Record, Object, Whole, Service, Missing}
use Rattle.listing_tables.specs.declared.rows.Sort.TheVariants.{Ending as EndingRow}

-- the number of a sort
abbrev pub sort_number : Sort → ℕ
sort_number Thread = 1
sort_number Interface = 2
sort_number Record = 3
sort_number Object = 4
sort_number Whole = 5
sort_number Service = 6
sort_number Missing = 7
sort_number EndingRow = 8

-- the mask of a row of the stream: the highest byte is its sort, and the other bits are its columns
abbrev pub sorted_mask : Sort → List Column → ℕ
sorted_mask sort columns = sort_number sort * 2 ^ 56 + mask_of columns

-- the bytes of a row of the stream
abbrev pub sorted_bytes : Sort → List Column → List ℕ
sorted_bytes sort columns = masked_bytes (sorted_mask sort columns) columns

-- a row of the stream
pub record SortedRow : Type 0 where
  pub sort : Sort
  pub columns : List Column

-- the bytes of these rows
abbrev pub stream_bytes : List SortedRow → List ℕ
stream_bytes rows = flat_map (λ row. sorted_bytes row.sort row.columns) rows

-- whether a row of this sort is a record
abbrev pub is_record : Sort → Bool
is_record Record = true
is_record _ = false

-- these columns, if it is a record that has them
abbrev pub if_record : Sort → List Column → List (List Column)
if_record sort columns = if is_record sort then columns ∷ [] else []

-- the columns of the records among these rows
abbrev pub records_among : List SortedRow → List (List Column)
records_among rows = flat_map (λ row. if_record row.sort row.columns) rows

-- A writer has grown by rows of the stream, and by nothing else. Those that are records are as many as these beginnings,
-- and begin so, in order.
pub record AddsRecords (old new : Option (List ℕ)) (begins : List (List Column)) : Type 0 where
  pub rows : List SortedRow
  pub are_records : AllZip BeginsWith begins (records_among rows)
  pub are : Appends old new (stream_bytes rows)

-- What the last row has: the place of the fault in its own file, the number of that file, how many files there are, and
-- the status. Of the kind of the fault, the first column, nothing is said.
abbrev pub IsEndingRow : Ending → ℕ → List Column → Type 0
IsEndingRow ending status row =
    drop 1 row ≡ column_of (option_map (λ found. found.fault.place) ending.fault) ∷ column_of (option_map (λ found. found.part) ending.fault)
    ∷ Number ending.parts ∷ Number status ∷ []

-- a writer has grown by a last row with this status, and by nothing else
pub record AddsLast (old new : Option (List ℕ)) (status : ℕ) : Type 0 where
  pub ending : Ending
  pub columns : List Column
  pub is_last : IsEndingRow ending status columns
  pub are : Appends old new (sorted_bytes EndingRow columns)

-- A writer has grown by a whole stream: by rows of which those that are records begin so, in order, and then by a last row
-- with this status.
pub record IsStream (old new : Option (List ℕ)) (begins : List (List Column)) (status : ℕ) : Type 0 where
  pub rows : List SortedRow
  pub are_records : AllZip BeginsWith begins (records_among rows)
  pub ending : Ending
  pub last : List Column
  pub is_last : IsEndingRow ending status last
  pub are : Appends old new (stream_bytes rows ++ sorted_bytes EndingRow last)
