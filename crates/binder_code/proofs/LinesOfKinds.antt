-- The lines of the code and those of the header.
use Rattle.std.proofs.Common.{◌≡◌, ◌==◌, ◌&&◌, ◌||◌, ◌<◌, ℕ, zero, suc, Bool, true, false, Option, Some, None, List, [], ◌∷◌, map, take, length, cond, get_or, Bor, refl, sym, ap, ap₂, ◌∙◌, arith}
use Rattle.std.specs.Prelude.{option_map}
use Rattle.std.specs.List.{find, list_any, slice_get}
use Rattle.std.specs.Slice.{IsItemAt}
use Rattle.std.proofs.lemmas.Option.{slice_get-map, slice_get_past, slice_get_read}
use Rattle.binder_code.specs.Code.{number, size}
use Rattle.binder_code.specs.Commands.{Row, command_lines, return_lines, lines_of, lines, row_of, has_number, has_size, judged, listing_of}
use Rattle.binder_code.specs.Lines.{spelled, spelled_as, is_numbered, is_sized, listing_in}
use Rattle.binder_code.specs.contracts.record_kind.Kind.{the_type}
use Rattle.binder_code.specs.declared.protocol.Protocol.{Protocol}
use Rattle.binder_code.specs.declared.record_kind.Kind.{Kind}
use Rattle.binder_code.specs.declared.record_kind.Kind.TheVariants.{Opaque}
use Rattle.binder_code.specs.declared.record_kind.Line.{Line}
use denote.Enum.Declared.{tag_of}

-- the lines are in the order of the kinds
pub line_of_tag : (kind : Kind) → slice_get lines (tag_of the_type kind) ≡ row_of kind
unfolding command_lines return_lines
line_of_tag Opaque = refl
line_of_tag _ = refl

-- what is read of a list at a place
read_at : (xs : List Line) (i : ℕ) (r : Option (Bor Line)) → IsItemAt xs i r → option_map (λ line. line.now) r ≡ slice_get xs i
read_at xs i None item = sym (slice_get_past xs i item.3)
read_at xs i (Some x) item = sym (slice_get_read xs (length xs) i x.now refl item.3.0 item.1)

on_now : {A : Type 0} (f : Line → A) (r : Option (Bor Line)) → option_map (λ line. f line.now) r ≡ option_map f (option_map (λ line. line.now) r)
on_now f None = refl
on_now f (Some x) = refl

-- what the code's lines have as the header's, the line at the place of a kind has
pub column : {A : Type 0} (f : Line → A) (g : Row → A) (xs : List Line) → map f xs ≡ map g lines → (kind : Kind) (place : ℕ)
    → slice_get lines place ≡ row_of kind → (r : Option (Bor Line)) → IsItemAt xs place r
    → option_map (λ line. f line.now) r ≡ option_map g (row_of kind)
column f g xs same kind place is r item =
    on_now f r ∙ ap (option_map f) (read_at xs place r item) ∙ sym (slice_get-map f xs place)
    ∙ ap (λ ys. slice_get ys place) same ∙ slice_get-map g lines place ∙ ap (option_map g) is

-- ---- numbers and sizes

-- the first of two lists, one of lines of the code, the other of the header, which pass a test alike
first_of : (test : Bool) (x : Line) (row : Row) (found : Option Line) (listed : Option Row) → x.kind ≡ row.kind
    → option_map (λ line. line.kind) found ≡ option_map (λ row. row.kind) listed
    → option_map (λ line. line.kind) (cond test (Some x) found) ≡ option_map (λ row. row.kind) (cond test (Some row) listed)
first_of true x row found listed kinds others = ap Some kinds
first_of false x row found listed kinds others = others

found_same : (n bytes : ℕ) (xs : List Line) (rows : List Row) → map spelled xs ≡ map spelled_as rows
    → option_map (λ line. line.kind) (find (is_sized n bytes) xs) ≡ option_map (λ row. row.kind) (find (has_size n bytes) rows)
found_same n bytes [] [] same = refl
found_same n bytes [] (row ∷ rows) same = cc
found_same n bytes (x ∷ xs) [] same = cc
found_same n bytes (x ∷ xs) (row ∷ rows) same =
    let head : spelled x ≡ spelled_as row = cc in
    ap (λ t. option_map (λ line. line.kind) (cond (t.1 == n && (t.2 == bytes)) (Some x) (find (is_sized n bytes) xs))) head
    ∙ first_of (has_size n bytes row) x row (find (is_sized n bytes) xs) (find (has_size n bytes) rows) (ap (λ t. t.0) head)
    (found_same n bytes xs rows cc)

any_same : (n : ℕ) (xs : List Line) (rows : List Row) → map spelled xs ≡ map spelled_as rows
    → list_any (is_numbered n) xs ≡ list_any (has_number n) rows
any_same n [] [] same = refl
any_same n [] (row ∷ rows) same = cc
any_same n (x ∷ xs) [] same = cc
any_same n (x ∷ xs) (row ∷ rows) same =
    let head : spelled x ≡ spelled_as row = cc in
    ap₂ ◌||◌ (ap (λ t. t.1 == n) head) (any_same n xs rows cc)

-- ---- a search that goes on

-- the first element after those that fail a test is found, if it passes
pub found_next : (test : Line → Bool) (xs : List Line) (i : ℕ) (d : Line) → find test (take i xs) ≡ None → i < length xs → test (get_or xs i d) ≡ true
    → find test xs ≡ Some (get_or xs i d)
found_next test [] i d missed within passes = absurd (omega (arith, within))
found_next test (y ∷ ys) zero d missed within passes = ap (λ v. cond v (Some y) (find test ys)) passes
found_next test (y ∷ ys) (suc i) d missed within passes =
    (elim (test y) as (λ v. cond v (Some y) (find test (take i ys)) ≡ None → cond v (Some y) (find test ys) ≡ Some (get_or ys i d)) [
      | true ↦ λ found. cc
      | false ↦ λ later. found_next test ys i d later (omega (arith, within)) passes
    ]) missed

-- and if it fails, none is found so far
pub missed_next : (test : Line → Bool) (xs : List Line) (i : ℕ) (d : Line) → find test (take i xs) ≡ None → i < length xs → test (get_or xs i d) ≡ false
    → find test (take (suc i) xs) ≡ None
missed_next test [] i d missed within fails = absurd (omega (arith, within))
missed_next test (y ∷ ys) zero d missed within fails = ap (λ v. cond v (Some y) None) fails
missed_next test (y ∷ ys) (suc i) d missed within fails =
    (elim (test y) as (λ v. cond v (Some y) (find test (take i ys)) ≡ None → cond v (Some y) (find test (take (suc i) ys)) ≡ None) [
      | true ↦ λ found. cc
      | false ↦ λ later. missed_next test ys i d later (omega (arith, within)) fails
    ]) missed

-- what the code's lines say of a number and a size, the header's do
pub listing_same : (protocol : Protocol) (xs : List Line) → map spelled xs ≡ map spelled_as (lines_of protocol) → (n bytes : ℕ)
    → listing_in xs n bytes ≡ listing_of protocol n bytes
listing_same protocol xs same n bytes =
    ap₂ judged (found_same n bytes xs (lines_of protocol) same) (any_same n xs (lines_of protocol) same)
