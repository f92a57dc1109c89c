-- Rows that are added to a writer, one after another; and the frames up to the first whose content has a fault.
use Rattle.std.proofs.Common.{◌≡◌, ℕ, suc, ◌+◌, ◌<◌, All, length, drop, get_or, List, ◌∷◌, ◌++◌, [], take, Option, Some, None, is_some, slice_get, true, false, refl, ap, sym, subst, ◌∙◌}
use Rattle.std.proofs.KnownBytes.{Appends-kept, Appends-nil, Appends-trans}
use Rattle.std.proofs.lemmas.Bool.{true≢false}
use Rattle.std.proofs.lemmas.Grind.{flat_map-append}
use Rattle.std.proofs.lemmas.List.{append-nil, flat_map_more, take-append-drop, take_more}
use Rattle.std.proofs.lemmas.List.Elements.{recursion_from_All}
use Rattle.std.proofs.lemmas.Option.{get_or_from_slice_get, slice_get_within}
use Rattle.std.proofs.Math.Seq.{drop-cons}
use Rattle.std.specs.Io.KnownBytes.{Appends, Keeps}
use Rattle.std.specs.List.{AllByRecursion, AllZip, flat_map}
use Rattle.listing_tables.specs.Columns.{AddsRows, row_bytes}
use Rattle.listing_tables.specs.declared.rows.Column.{Column}
use Rattle.capture_frame.specs.declared.fault.Fault.{Fault}
use Rattle.capture_frame.specs.Envelope.{PlacedFrame}
use Rattle.transaction_view.specs.Grammar.{content_fault, IsGood}
use Rattle.listing_tables.specs.Walk.{unless_fault, up_to_fault}

pub kept_before : (a b c : Option (List ℕ)) (p : List ℕ) → Keeps a b → Appends b c p → Appends a c p
kept_before None b c p kept added = tt
kept_before (Some xs) None c p kept added = absurd kept
kept_before (Some xs) (Some ys) None p kept added = absurd added
kept_before (Some xs) (Some ys) (Some zs) p kept added = added ∙ ap (λ l. l ++ p) kept

pub zip_more : {A B : Type 0} (R : A → B → Type 0) (xs : List A) (rs : List B) (ys : List A) (ss : List B) → AllZip R xs rs → AllZip R ys ss
    → AllZip R (xs ++ ys) (rs ++ ss)
zip_more R [] [] ys ss first second = second
zip_more R [] (r ∷ rs) ys ss first second = absurd first
zip_more R (x ∷ xs) [] ys ss first second = absurd first
zip_more R (x ∷ xs) (r ∷ rs) ys ss first second = (first.0, zip_more R xs rs ys ss first.1 second)

module _ {A : Type 0} (IsRow : A → List Column → Type 0) where
  -- no row is added
  pub no_rows : (known : Option (List ℕ)) → AddsRows IsRow known known []
  no_rows known = record { rows = []; are_rows = tt; are = Appends-nil known }

  -- a row is added
  pub one_row : (old new : Option (List ℕ)) (thing : A) (row : List Column) → IsRow thing row → Appends old new (row_bytes row)
      → AddsRows IsRow old new (thing ∷ [])
  one_row old new thing row is added = record {
    rows = row ∷ [];
    are_rows = (is, tt);
    are = subst (Appends old new) (sym (append-nil (row_bytes row))) added;
  }

  -- rows are added, and then others
  pub more_rows : (a b c : Option (List ℕ)) (xs ys : List A) → AddsRows IsRow a b xs → AddsRows IsRow b c ys → AddsRows IsRow a c (xs ++ ys)
  more_rows a b c xs ys first second = record {
    rows = first.rows ++ second.rows;
    are_rows = zip_more IsRow xs first.rows ys second.rows first.are_rows second.are_rows;
    are = subst (Appends a c) (sym (flat_map-append row_bytes first.rows second.rows))
        (Appends-trans a b c (flat_map row_bytes first.rows) (flat_map row_bytes second.rows) first.are second.are);
  }

  -- the rows of one thing more are added
  pub rows_after : {X : Type 0} (a b c : Option (List ℕ)) (f : X → List A) (xs : List X) (i : ℕ) (x : X) → slice_get xs i ≡ Some x
      → AddsRows IsRow a b (flat_map f (take i xs)) → AddsRows IsRow b c (f x) → AddsRows IsRow a c (flat_map f (take (i + 1) xs))
  rows_after a b c f xs i x here so_far next =
      let more : take (i + 1) xs ≡ take i xs ++ x ∷ []
      = take_more xs i x (slice_get_within xs i x here) ∙ ap (λ y. take i xs ++ y ∷ []) (get_or_from_slice_get xs i x x here) in
      subst (AddsRows IsRow a c) (flat_map_more f [] (take i xs) x ∙ ap (flat_map f) (sym more))
      (more_rows a b c (flat_map f (take i xs)) (f x) so_far next)

  -- the writer kept what it had before the rows, and keeps what it has after them
  pub kept_rows : (a b c d : Option (List ℕ)) (xs : List A) → Keeps a b → AddsRows IsRow b c xs → Keeps c d → AddsRows IsRow a d xs
  kept_rows a b c d xs before added after = record {
    rows = added.rows;
    are_rows = added.are_rows;
    are = Appends-kept a c d (flat_map row_bytes added.rows) (kept_before a b c (flat_map row_bytes added.rows) before added.are) after;
  }

-- good frames come before the others
after_good : (xs ys : List PlacedFrame) → AllByRecursion IsGood xs → up_to_fault (xs ++ ys) ≡ xs ++ up_to_fault ys
after_good [] ys good = refl
after_good (x ∷ xs) ys good =
    ap (λ fault. x ∷ unless_fault fault (up_to_fault (xs ++ ys))) good.0 ∙ ap (λ l. x ∷ l) (after_good xs ys good.1)

-- if all frames are good, all count
pub all_good : (frames : List PlacedFrame) → All IsGood frames → frames ≡ up_to_fault frames
all_good frames good =
    sym (append-nil frames) ∙ sym (after_good frames [] (recursion_from_All IsGood frames good)) ∙ ap up_to_fault (append-nil frames)

-- the frames after a fault do not count
stops : (fault : Option Fault) (frames : List PlacedFrame) → is_some fault ≡ true → unless_fault fault frames ≡ []
stops (Some fault) frames is = refl
stops None frames is = absurd (true≢false (sym is))

-- after good frames comes one whose content has a fault
pub one_bad : (frames : List PlacedFrame) (i : ℕ) (d : PlacedFrame) → i < length frames → All IsGood (take i frames)
    → is_some (content_fault (get_or frames i d)) ≡ true → take (i + 1) frames ≡ up_to_fault frames
one_bad frames i d inside good bad =
    let last = get_or frames i d in
    let others = drop (suc i) frames in
    let rest : up_to_fault (last ∷ others) ≡ last ∷ [] = ap (λ l. last ∷ l) (stops (content_fault last) (up_to_fault others) bad) in
    take_more frames i d inside ∙ ap (λ l. take i frames ++ l) (sym rest)
    ∙ sym (after_good (take i frames) (last ∷ others) (recursion_from_All IsGood (take i frames) good))
    ∙ ap (λ l. up_to_fault (take i frames ++ l)) (sym (drop-cons frames i d inside))
    ∙ ap up_to_fault (take-append-drop i frames)

-- there is no fault
pub no_fault : (fault : Option Fault) → is_some fault ≡ false → fault ≡ None
no_fault None is = refl
no_fault (Some fault) is = absurd (true≢false is)
