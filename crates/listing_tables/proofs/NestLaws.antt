-- The calls of a thread, each within the last one before it that is not closed before it.
use Rattle.std.proofs.Common.{◌≡◌, ℕ, ◌+◌, ◌-◌, ◌<◌, ◌≤◌, cond, true, false, List, [], ◌∷◌, ◌++◌, length, map, take, get_or, Option, Some, None}
use Rattle.std.proofs.Common.{refl, sym, ap, ◌∙◌, append_assoc, arith, length-append}
use Rattle.std.proofs.lemmas.Bool.{leb-false, lt-leb, true≢false}
use Rattle.std.proofs.lemmas.List.{append-nil, map-append, take_more}
use Rattle.std.proofs.lemmas.Option.{slice_get-get_or}
use Rattle.std.proofs.Math.Seq.{get_or-append_seam}
use Rattle.std.specs.List.{cons_option}
use Rattle.std.specs.Option.{option_or}
use Rattle.std.specs.Prelude.{slice_get}
use Rattle.listing_tables.specs.Calls.{CallRow, closers_in, if_open, innermost, is_open_until, last_call, nested_after, row_of_call, within}
use Rattle.listing_tables.specs.declared.calls.Call.{Call}

-- ---- the last call that is not closed

or_none : (o : Option CallRow) → option_or o None ≡ o
or_none None = refl
or_none (Some row) = refl

or_three : (a b c : Option CallRow) → option_or (option_or a b) c ≡ option_or a (option_or b c)
or_three None b c = refl
or_three (Some row) b c = refl

-- one more call is the last one, if it is not closed
pub innermost_more : (at : ℕ) (rows : List CallRow) (row : CallRow)
    → innermost at (rows ++ row ∷ []) ≡ option_or (if_open at row) (innermost at rows)
innermost_more at [] row = sym (or_none (if_open at row))
innermost_more at (first ∷ rows) row =
    ap (λ (o : Option CallRow). option_or o (if_open at first)) (innermost_more at rows row)
    ∙ or_three (if_open at row) (innermost at rows) (if_open at first)

-- what is closed before a place is closed before a later one
closed_later : (place at : ℕ) (closer : Option ℕ) → place ≤ at → is_open_until place closer ≡ false → is_open_until at closer ≡ false
closed_later place at None later closed = absurd (true≢false closed)
closed_later place at (Some end) later closed =
    let before = leb-false place end closed in
    lt-leb at end (omega (arith, before, later))

-- a last call that is closed can be left out
pub without_closed : (place at : ℕ) (rows : List CallRow) (row : CallRow) → place ≤ at → is_open_until place row.closer ≡ false
    → innermost at (rows ++ row ∷ []) ≡ innermost at rows
without_closed place at rows row later closed =
    innermost_more at rows row
    ∙ ap (λ b. option_or (cond b (Some row) None) (innermost at rows)) (closed_later place at row.closer later closed)

-- a last call that is not closed is the one
pub last_open : (place : ℕ) (rows : List CallRow) (row : CallRow) → is_open_until place row.closer ≡ true
    → innermost place (rows ++ row ∷ []) ≡ Some row
last_open place rows row is_open =
    innermost_more place rows row ∙ ap (λ b. option_or (cond b (Some row) None) (innermost place rows)) is_open

-- ---- the same of calls of the table

pub rows_more : (calls : List Call) (i : ℕ) (d : Call) → i < length calls
    → map row_of_call (take (i + 1) calls) ≡ map row_of_call (take i calls) ++ row_of_call (get_or calls i d) ∷ []
rows_more calls i d within =
    ap (map row_of_call) (take_more calls i d within) ∙ map-append row_of_call (take i calls) (get_or calls i d ∷ [])

last_added : (calls : List Call) (call : Call) → last_call (calls ++ call ∷ []) ≡ Some call
last_added calls call =
    let all = calls ++ call ∷ [] in
    let long = length-append calls (call ∷ []) in
    let at : length all - 1 ≡ length calls = omega (arith, long) in
    let inside : length calls < length all = omega (arith, long) in
    ap (slice_get all) at ∙ slice_get-get_or all (length calls) call inside ∙ ap (λ c. Some c) (get_or-append_seam calls call [] call)

pub last_of_more : (calls : List Call) (i : ℕ) (d : Call) → i < length calls → last_call (take (i + 1) calls) ≡ Some (get_or calls i d)
last_of_more calls i d within =
    ap last_call (take_more calls i d within) ∙ last_added (take i calls) (get_or calls i d)

-- ---- nesting

-- one more call is within the last one before it that is not closed
pub nested_more : (before rows : List CallRow) (row : CallRow)
    → nested_after before (rows ++ row ∷ [])
    ≡ nested_after before rows ++ within (innermost row.place (before ++ nested_after before rows)) row ∷ []
nested_more before [] row = ap (λ (l : List CallRow). within (innermost row.place l) row ∷ []) (sym (append-nil before))
nested_more before (first ∷ rows) row =
    let call = within (innermost first.place before) first in
    let after = before ++ call ∷ [] in
    let rest = nested_after after rows in
    ap (λ (l : List CallRow). call ∷ l) (nested_more after rows row)
    ∙ ap (λ (l : List CallRow). call ∷ (rest ++ within (innermost row.place l) row ∷ [])) (append_assoc before (call ∷ []) rest)

-- calls keep their closers
pub nested_closers : (before rows : List CallRow) → closers_in (nested_after before rows) ≡ closers_in rows
nested_closers before [] = refl
nested_closers before (row ∷ rows) =
    let call = within (innermost row.place before) row in
    ap (λ (l : List ℕ). cons_option row.closer l) (nested_closers (before ++ call ∷ []) rows)
