-- Rows of the stream that are added to a writer, one after another.
use Rattle.std.proofs.Common.{◌≡◌, ℕ, ◌+◌, if◌then◌else◌, Bool, false, List, ◌∷◌, ◌++◌, [], take, Option, Some, slice_get, ap, sym, subst, ◌∙◌}
use Rattle.std.proofs.KnownBytes.{Appends-kept, Appends-nil, Appends-trans}
use Rattle.std.proofs.lemmas.Grind.{flat_map-append}
use Rattle.std.proofs.lemmas.List.{append-nil, flat_map_more, take_more}
use Rattle.std.proofs.lemmas.Option.{get_or_from_slice_get, slice_get_within}
use Rattle.std.specs.Io.KnownBytes.{Appends, Keeps}
use Rattle.std.specs.List.{AllZip, flat_map}
use Rattle.listing_tables.specs.Stream.{AddsLast, AddsRecords, IsStream, SortedRow, if_record, is_record, records_among, sorted_bytes, stream_bytes}
use Rattle.listing_tables.specs.Walk.{BeginsWith}
use Rattle.listing_tables.specs.declared.rows.Column.{Column}
use Rattle.listing_tables.specs.declared.rows.Sort.{Sort}
use Rattle.listing_tables.specs.declared.rows.Sort.TheVariants.{Record}
use Rattle.listing_tables.specs.declared.rows.Sort.TheVariants.{Ending as EndingRow}
use Rattle.listing_tables.proofs.WalkLaws.{kept_before, zip_more}

-- no row is added
pub no_records : (known : Option (List ℕ)) → AddsRecords known known []
no_records known = record { rows = []; are_records = tt; are = Appends-nil known }

-- a record is added
pub a_record : (old new : Option (List ℕ)) (begin columns : List Column) → BeginsWith begin columns → Appends old new (sorted_bytes Record columns)
    → AddsRecords old new (begin ∷ [])
a_record old new begin columns begins added = record {
  rows = record { sort = Record; columns = columns } ∷ [];
  are_records = (begins, tt);
  are = subst (Appends old new) (sym (append-nil (sorted_bytes Record columns))) added;
}

-- a row of another sort is added
pub another_row : (sort : Sort) (old new : Option (List ℕ)) (columns : List Column) → is_record sort ≡ false
    → Appends old new (sorted_bytes sort columns) → AddsRecords old new []
another_row sort old new columns other added = record {
  rows = record { sort = sort; columns = columns } ∷ [];
  are_records = subst (λ (is : Bool). AllZip BeginsWith [] ((if is then columns ∷ [] else []) ++ [])) (sym other) tt;
  are = subst (Appends old new) (sym (append-nil (sorted_bytes sort columns))) added;
}

-- rows are added, and then others
pub more_records : (a b c : Option (List ℕ)) (xs ys : List (List Column)) → AddsRecords a b xs → AddsRecords b c ys → AddsRecords a c (xs ++ ys)
more_records a b c xs ys first second = record {
  rows = first.rows ++ second.rows;
  are_records = subst (AllZip BeginsWith (xs ++ ys)) (sym (flat_map-append (λ (row : SortedRow). if_record row.sort row.columns) first.rows second.rows))
      (zip_more BeginsWith xs (records_among first.rows) ys (records_among second.rows) first.are_records second.are_records);
  are = subst (Appends a c) (sym (flat_map-append (λ (row : SortedRow). sorted_bytes row.sort row.columns) first.rows second.rows))
      (Appends-trans a b c (stream_bytes first.rows) (stream_bytes second.rows) first.are second.are);
}

-- rows are added among which are no records, after others
pub more_others : (a b c : Option (List ℕ)) (xs : List (List Column)) → AddsRecords a b xs → AddsRecords b c [] → AddsRecords a c xs
more_others a b c xs first second = subst (AddsRecords a c) (append-nil xs) (more_records a b c xs [] first second)

-- the records of one thing more are added
pub records_after : {X : Type 0} (a b c : Option (List ℕ)) (f : X → List (List Column)) (xs : List X) (i : ℕ) (x : X) → slice_get xs i ≡ Some x
    → AddsRecords a b (flat_map f (take i xs)) → AddsRecords b c (f x) → AddsRecords a c (flat_map f (take (i + 1) xs))
records_after a b c f xs i x here so_far next =
    let more : take (i + 1) xs ≡ take i xs ++ x ∷ []
    = take_more xs i x (slice_get_within xs i x here) ∙ ap (λ y. take i xs ++ y ∷ []) (get_or_from_slice_get xs i x x here) in
    subst (AddsRecords a c) (flat_map_more f [] (take i xs) x ∙ ap (flat_map f) (sym more))
    (more_records a b c (flat_map f (take i xs)) (f x) so_far next)

-- the last row is added
pub whole_stream : (a b c : Option (List ℕ)) (begins : List (List Column)) (status : ℕ) → AddsRecords a b begins → AddsLast b c status
    → IsStream a c begins status
whole_stream a b c begins status added ended = record {
  rows = added.rows;
  are_records = added.are_records;
  ending = ended.ending;
  last = ended.columns;
  is_last = ended.is_last;
  are = Appends-trans a b c (stream_bytes added.rows) (sorted_bytes EndingRow ended.columns) added.are ended.are;
}

-- the writer kept what it had before the stream, and keeps what it has after it
pub kept_stream : (a b c d : Option (List ℕ)) (begins : List (List Column)) (status : ℕ) → Keeps a b → IsStream b c begins status → Keeps c d
    → IsStream a d begins status
kept_stream a b c d begins status before added after = record {
  rows = added.rows;
  are_records = added.are_records;
  ending = added.ending;
  last = added.last;
  is_last = added.is_last;
  are = Appends-kept a c d (stream_bytes added.rows ++ sorted_bytes EndingRow added.last)
      (kept_before a b c (stream_bytes added.rows ++ sorted_bytes EndingRow added.last) before added.are) after;
}
