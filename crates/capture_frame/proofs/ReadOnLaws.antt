-- What holds of every text that is read unit by unit.
use Rattle.std.proofs.Common.{◌≡◌, ℕ, zero, suc, ◌+◌, ◌-◌, ◌<◌, ◌≤◌, List, [], ◌∷◌, ◌++◌, length, drop, map, All, AllPairs, sum_by, flat_map, option_map, Option, Some, None, Result, Ok, Err, refl, sym, ap, ap₂, subst, ◌∙◌, length-drop, drop-drop, arith}
use Rattle.std.proofs.lemmas.List.Concat.{flat_map-cons}
use Rattle.std.proofs.lemmas.List.Elements.{All-nil, All-cons, All-weaker}
use Rattle.std.proofs.lemmas.List.Kept.{AllPairs-cons}
use Rattle.std.proofs.lemmas.List.Sums.{sum_by-cons}
use Rattle.capture_frame.specs.declared.fault.Fault.{Fault}
use Rattle.capture_frame.specs.declared.fault.FaultKind.{FaultKind}
use Rattle.capture_frame.specs.Calls.{Calls, no_more, one_more, GiveInOrder}
use Rattle.capture_frame.specs.ReadOn.{Parser, Parsed, at_end, at_fault, with_unit, unit_or_fault, read_on, parsed_by}
use Rattle.capture_frame.specs.Readers.{Steps, GivesUnit, last_result}
use Rattle.capture_frame.specs.Tests.{fault_at, at_place}
use Rattle.capture_frame.specs.Units.{Placed, placed_at, placed, units_of, IsBytes}
use Rattle.capture_frame.proofs.NumberLaws.{IsBytes-drop}
use Rattle.capture_frame.proofs.Pairs.{pairs_nil}

-- ---- one unit

module _ {S U : Type 0} (parser : Parser S U) where
  -- the bytes of the unit before are passed over
  pub read_past : (state : S) (place skip : ℕ) (bytes : List ℕ) → read_on parser state place skip bytes ≡ parsed_by parser state (place + skip) (drop skip bytes)
  read_past state place zero bytes = ap (λ (n : ℕ). read_on parser state n 0 bytes) (let e : place ≡ place + 0 = omega arith in e)
  read_past state place (suc skip) [] = refl
  read_past state place (suc skip) (b ∷ bytes) =
      read_past state (place + 1) skip bytes
      ∙ ap (λ (n : ℕ). parsed_by parser state n (drop skip bytes)) (let e : place + 1 + skip ≡ place + suc skip = omega arith in e)

  -- bytes that begin with a unit come to that unit, and then to what comes of the bytes after it
  pub unit_here : (state : S) (place : ℕ) (bytes : List ℕ) (unit : U) → 0 < length bytes → parser.first state place bytes ≡ Ok unit → 1 ≤ parser.width unit
      → parsed_by parser state place bytes ≡ with_unit (placed_at place unit)
      (parsed_by parser (parser.after state unit) (place + parser.width unit) (drop (parser.width unit) bytes))
  unit_here state place [] unit some is long = absurd (omega arith)
  unit_here state place (b ∷ bytes) unit some is long =
      let n = parser.width unit in
      let next = parser.after state unit in
      let far : place + 1 + (n - 1) ≡ place + n = omega arith in
      let one : suc (n - 1) ≡ n = omega arith in
      ap (λ (r : Result U Fault). unit_or_fault place r (λ u. read_on parser (parser.after state u) (place + 1) (parser.width u - 1) bytes)) is
      ∙ ap (with_unit (placed_at place unit))
      (read_past next (place + 1) (n - 1) bytes ∙ ap (λ (p : ℕ). parsed_by parser next p (drop (n - 1) bytes)) far
      ∙ ap (λ (k : ℕ). parsed_by parser next (place + n) (drop k (b ∷ bytes))) one)

  -- bytes that begin with a fault come to it
  pub fault_here : (state : S) (place : ℕ) (bytes : List ℕ) (fault : Fault) → 0 < length bytes → parser.first state place bytes ≡ Err fault
      → parsed_by parser state place bytes ≡ at_fault fault
  fault_here state place [] fault some is = absurd (omega arith)
  fault_here state place (b ∷ bytes) fault some is =
      ap (λ (r : Result U Fault). unit_or_fault place r (λ u. read_on parser (parser.after state u) (place + 1) (parser.width u - 1) bytes)) is

-- ---- all units

-- each unit takes at least one byte, and no more than there are
pub record HasWidths {S U : Type 0} (parser : Parser S U) : Type 0 where
  pub some : (unit : U) → 1 ≤ parser.width unit
  pub fits : (state : S) (place : ℕ) (bytes : List ℕ) (unit : U) → parser.first state place bytes ≡ Ok unit → parser.width unit ≤ length bytes

-- Where `P` holds at the end and at a fault, and holds of a unit with what comes after it if it holds of that, it holds
-- of all texts.
module _ {S U : Type 0} (parser : Parser S U) (widths : HasWidths parser) (P : S → ℕ → List ℕ → Parsed U → Type 0)
    (ends : (state : S) (place : ℕ) → P state place [] at_end)
    (fails : (state : S) (place : ℕ) (bytes : List ℕ) (fault : Fault) → 0 < length bytes → parser.first state place bytes ≡ Err fault
    → P state place bytes (at_fault fault))
    (goes_on : (state : S) (place : ℕ) (bytes : List ℕ) (unit : U) (later : Parsed U) → 0 < length bytes → parser.first state place bytes ≡ Ok unit
    → P (parser.after state unit) (place + parser.width unit) (drop (parser.width unit) bytes) later
    → P state place bytes (with_unit (placed_at place unit) later)) where
  by_first : (state : S) (place : ℕ) (bytes : List ℕ) (first : Result U Fault) → 0 < length bytes → parser.first state place bytes ≡ first
      → ((next : S) (further : ℕ) (rest : List ℕ) → length rest < length bytes → P next further rest (parsed_by parser next further rest))
      → P state place bytes (parsed_by parser state place bytes)
  by_first state place bytes (Err fault) some is shorter =
      subst (P state place bytes) (sym (fault_here parser state place bytes fault some is)) (fails state place bytes fault some is)
  by_first state place bytes (Ok unit) some is shorter =
      let n = parser.width unit in
      let next = parser.after state unit in
      let wide = widths.some unit in
      subst (P state place bytes) (sym (unit_here parser state place bytes unit some is wide))
      (goes_on state place bytes unit (parsed_by parser next (place + n) (drop n bytes)) some is
      (shorter next (place + n) (drop n bytes) (omega (arith, length-drop n bytes))))

  up_to : (n : ℕ) (state : S) (place : ℕ) (bytes : List ℕ) → length bytes < n → P state place bytes (parsed_by parser state place bytes)
  up_to zero state place bytes short = absurd (omega arith)
  up_to (suc n) state place [] short = ends state place
  up_to (suc n) state place (b ∷ bytes) short =
      by_first state place (b ∷ bytes) (parser.first state place (b ∷ bytes)) (omega arith) refl (λ next further rest less. up_to n next further rest (omega arith))

  pub by_units : (state : S) (place : ℕ) (bytes : List ℕ) → P state place bytes (parsed_by parser state place bytes)
  by_units state place bytes = up_to (suc (length bytes)) state place bytes (omega arith)

-- the bytes at the unit's place begin with it, where all bytes begin at `place`, and all of it is there
pub record IsThere {S U : Type 0} (parser : Parser S U) (place : ℕ) (bytes : List ℕ) (there : Placed U) : Type 0 where
  pub from : place ≤ there.place
  pub within : there.place + parser.width there.unit ≤ place + length bytes
  pub state : S
  pub is : parser.first state there.place (drop (there.place - place) bytes) ≡ Ok there.unit

-- a unit and a fault, `n` bytes further
abbrev pub moved_unit : {U : Type 0} → ℕ → Placed U → Placed U
moved_unit n there = placed_at (n + there.place) there.unit

abbrev pub moved : ℕ → Fault → Fault
moved n fault = fault_at fault.kind (n + fault.place)

-- what bytes begin with, and what they come to, `n` bytes further
abbrev pub first_moved : {U : Type 0} → ℕ → Result U Fault → Result U Fault
first_moved n (Ok unit) = Ok unit
first_moved n (Err fault) = Err (moved n fault)

-- what was not there is not there after a move either
pub map_none : {A B : Type 0} (f : A → B) (a : Option A) → option_map f a ≡ None → a ≡ None
map_none f None none = refl
map_none {A} {B} f (Some x) none = let wrong : Some (f x) ≡ None = none in absurd (cc)

pub at_place-moves : {U : Type 0} (n place : ℕ) (found : Result U FaultKind) → at_place (n + place) found ≡ first_moved n (at_place place found)
at_place-moves n place (Ok unit) = refl
at_place-moves n place (Err kind) = refl

abbrev pub all_moved : {U : Type 0} → ℕ → Parsed U → Parsed U
all_moved n found = record { units = map (moved_unit n) found.units; fault = option_map (moved n) found.fault }

module _ {S U : Type 0} (parser : Parser S U) (widths : HasWidths parser) where
  pub units_there : (state : S) (place : ℕ) (bytes : List ℕ) → All (IsThere parser place bytes) (parsed_by parser state place bytes).units
  units_there = by_units parser widths (λ state place bytes found. All (IsThere parser place bytes) found.units)
      (λ state place. All-nil (IsThere parser place []))
      (λ state place bytes fault some is. All-nil (IsThere parser place bytes))
      (λ state place bytes unit later some is all.
      let n = parser.width unit in
      let fits = widths.fits state place bytes unit is in
      All-cons (IsThere parser place bytes) (placed_at place unit) later.units
      (record {
        from = omega arith;
        within = omega arith;
        state = state;
        is = subst (λ (k : ℕ). parser.first state place (drop k bytes) ≡ Ok unit) (let e : 0 ≡ place - place = omega arith in e) is;
      })
      (All-weaker (IsThere parser (place + n) (drop n bytes)) (IsThere parser place bytes)
      (λ there h.
      let from = h.from in
      let within = h.within in
      let far : n + (there.place - (place + n)) ≡ there.place - place = omega arith in
      record {
        from = omega arith;
        within = omega (arith, length-drop n bytes);
        state = h.state;
        is = subst (λ (t : List ℕ). parser.first h.state there.place t ≡ Ok there.unit)
            (drop-drop (there.place - (place + n)) n bytes ∙ ap (λ (k : ℕ). drop k bytes) far) h.is;
      })
      later.units all))

  -- each unit begins where the one before it ends
  pub units_placed : (state : S) (place : ℕ) (bytes : List ℕ)
      → (parsed_by parser state place bytes).units ≡ placed parser.width place (units_of (parsed_by parser state place bytes).units)
  units_placed = by_units parser widths (λ state place bytes found. found.units ≡ placed parser.width place (units_of found.units))
      (λ state place. refl) (λ state place bytes fault some is. refl)
      (λ state place bytes unit later some is same. ap (λ (l : List (Placed U)). placed_at place unit ∷ l) same)

  -- the units together are no longer than the bytes
  pub units_within : (state : S) (place : ℕ) (bytes : List ℕ) → sum_by parser.width (units_of (parsed_by parser state place bytes).units) ≤ length bytes
  units_within = by_units parser widths (λ state place bytes found. sum_by parser.width (units_of found.units) ≤ length bytes)
      (λ state place. omega arith) (λ state place bytes fault some is. omega arith)
      (λ state place bytes unit later some is less.
      omega (arith, less, sum_by-cons parser.width unit (units_of later.units), length-drop (parser.width unit) bytes, widths.fits state place bytes unit is))

  -- without a fault they are as long
  pub units_fill : (state : S) (place : ℕ) (bytes : List ℕ) → (parsed_by parser state place bytes).fault ≡ None
      → sum_by parser.width (units_of (parsed_by parser state place bytes).units) ≡ length bytes
  units_fill = by_units parser widths (λ state place bytes found. found.fault ≡ None → sum_by parser.width (units_of found.units) ≡ length bytes)
      (λ state place good. refl) (λ state place bytes fault some is good. let no : ⊥ = cc in absurd no)
      (λ state place bytes unit later some is same good.
      omega (arith, same good, sum_by-cons parser.width unit (units_of later.units), length-drop (parser.width unit) bytes, widths.fits state place bytes unit is))

  -- without a fault the bytes are the units as they are written
  pub units_printed : (spelling : U → List ℕ)
      → ((state : S) (place : ℕ) (bytes : List ℕ) (unit : U) → IsBytes bytes → parser.first state place bytes ≡ Ok unit
      → bytes ≡ spelling unit ++ drop (parser.width unit) bytes)
      → (state : S) (place : ℕ) (bytes : List ℕ) → IsBytes bytes → (parsed_by parser state place bytes).fault ≡ None
      → bytes ≡ flat_map spelling (units_of (parsed_by parser state place bytes).units)
  units_printed spelling spelled = by_units parser widths
      (λ state place bytes found. IsBytes bytes → found.fault ≡ None → bytes ≡ flat_map spelling (units_of found.units))
      (λ state place are good. refl) (λ state place bytes fault some is are good. let no : ⊥ = cc in absurd no)
      (λ state place bytes unit later some is same are good.
      spelled state place bytes unit are is
      ∙ ap (λ (t : List ℕ). spelling unit ++ t) (same (IsBytes-drop (parser.width unit) bytes are) good)
      ∙ sym (flat_map-cons spelling unit (units_of later.units)))

  -- where bytes begin with the same unit or fault at a place `n` further, they come to the same `n` further
  pub moves : (n : ℕ) → ((state : S) (place : ℕ) (bytes : List ℕ) → parser.first state (n + place) bytes ≡ first_moved n (parser.first state place bytes))
      → (state : S) (place : ℕ) (bytes : List ℕ) → parsed_by parser state (n + place) bytes ≡ all_moved n (parsed_by parser state place bytes)
  moves n alike = by_units parser widths (λ state place bytes found. parsed_by parser state (n + place) bytes ≡ all_moved n found)
      (λ state place. refl)
      (λ state place bytes fault some is. fault_here parser state (n + place) bytes (moved n fault) some (alike state place bytes ∙ ap (first_moved n) is))
      (λ state place bytes unit later some is same.
      let far : n + place + parser.width unit ≡ n + (place + parser.width unit) = omega arith in
      unit_here parser state (n + place) bytes unit some (alike state place bytes ∙ ap (first_moved n) is) (widths.some unit)
      ∙ ap (with_unit (placed_at (n + place) unit))
      (ap (λ (p : ℕ). parsed_by parser (parser.after state unit) p (drop (parser.width unit) bytes)) far ∙ same))

-- moving changes no unit
pub units_moved : {U : Type 0} (n : ℕ) (units : List (Placed U)) → units_of (map (moved_unit n) units) ≡ units_of units
units_moved n [] = refl
units_moved n (there ∷ units) = ap (λ (l : List _). there.unit ∷ l) (units_moved n units)

-- ---- units with their places

module _ {U : Type 0} (width : U → ℕ) where
  pub units_of-placed : (place : ℕ) (units : List U) → units_of (placed width place units) ≡ units
  units_of-placed place [] = refl
  units_of-placed place (unit ∷ units) = ap (λ (l : List U). unit ∷ l) (units_of-placed (place + width unit) units)

  pub placed-append : (place : ℕ) (us vs : List U) → placed width place (us ++ vs) ≡ placed width place us ++ placed width (place + sum_by width us) vs
  placed-append place [] vs = ap (λ (p : ℕ). placed width p vs) (let e : place ≡ place + 0 = omega arith in e)
  placed-append place (u ∷ us) vs =
      let far : place + width u + sum_by width us ≡ place + sum_by width (u ∷ us) = omega (arith, sum_by-cons width u us) in
      ap (λ (l : List (Placed U)). placed_at place u ∷ l)
      (placed-append (place + width u) us vs ∙ ap (λ (p : ℕ). placed width (place + width u) us ++ placed width p vs) far)

  -- the unit begins at this place or after it, and ends at that one or before it
  abbrev pub IsBetween : ℕ → ℕ → Placed U → Type 0
  IsBetween place end there = (place ≤ there.place) × (there.place + width there.unit ≤ end)

  pub placed_within : (place : ℕ) (units : List U) → All (IsBetween place (place + sum_by width units)) (placed width place units)
  placed_within place [] = All-nil (IsBetween place (place + sum_by width []))
  placed_within place (unit ∷ units) =
      let end = place + sum_by width (unit ∷ units) in
      let next = place + width unit in
      let sum = sum_by-cons width unit units in
      All-cons (IsBetween place end) (placed_at place unit) (placed width next units) (omega arith, omega arith)
      (All-weaker (IsBetween next (next + sum_by width units)) (IsBetween place end)
      (λ there h. (omega (arith, h.0), omega (arith, h.1))) (placed width next units) (placed_within next units))

  -- the earlier unit ends before the later one begins
  abbrev pub AreInTurn : Placed U → Placed U → Type 0
  AreInTurn earlier later = earlier.place + width earlier.unit ≤ later.place

  pub placed_apart : (place : ℕ) (units : List U) → AllPairs AreInTurn (placed width place units)
  placed_apart place [] = pairs_nil AreInTurn
  placed_apart place (unit ∷ units) =
      let next = place + width unit in
      AllPairs-cons AreInTurn (placed_at place unit) (placed width next units)
      (All-weaker (IsBetween next (next + sum_by width units)) (AreInTurn (placed_at place unit)) (λ there h. h.0) (placed width next units)
      (placed_within next units))
      (placed_apart next units)

-- ---- readers

-- a reader before this offset of its bytes, the first of which is at `start`; `rest` are the bytes that are left
module _ {S U V : Type 0} (parser : Parser S U) (widths : HasWidths parser) (IsView : Placed U → V → Type 0) (state : S) (start offset : ℕ)
    (bytes rest : List ℕ) (rest_is : rest ≡ drop offset bytes) where
  -- one call gives the unit that they begin with
  pub gives_unit : (unit : U) (found : V) → 0 < length rest → parser.first state (start + offset) rest ≡ Ok unit → IsView (placed_at (start + offset) unit) found
      → Steps IsView (parsed_by parser state (start + offset) (drop offset bytes)) (Ok (Some found))
      (parsed_by parser (parser.after state unit) (start + (offset + parser.width unit)) (drop (offset + parser.width unit) bytes))
  gives_unit unit found some is view =
      let far : start + offset + parser.width unit ≡ start + (offset + parser.width unit) = omega arith in (
        placed_at (start + offset) unit,
        view,
        ap (parsed_by parser state (start + offset)) (sym rest_is)
            ∙ unit_here parser state (start + offset) rest unit some is (widths.some unit)
            ∙ ap (with_unit (placed_at (start + offset) unit))
            (ap₂ (parsed_by parser (parser.after state unit)) far (ap (drop (parser.width unit)) rest_is ∙ drop-drop (parser.width unit) offset bytes)),
      )

  -- and the reader stays within its bytes
  pub stays_within : (unit : U) → offset ≤ length bytes → parser.first state (start + offset) rest ≡ Ok unit → offset + parser.width unit ≤ length bytes
  stays_within unit within is =
      omega (arith, widths.fits state (start + offset) rest unit is, ap length rest_is, length-drop offset bytes)

  -- or the fault that they begin with
  pub gives_fault : (fault : Fault) → 0 < length rest → parser.first state (start + offset) rest ≡ Err fault
      → Steps IsView (parsed_by parser state (start + offset) (drop offset bytes)) (Err fault) (at_fault fault)
  gives_fault fault some is =
      (ap (parsed_by parser state (start + offset)) (sym rest_is) ∙ fault_here parser state (start + offset) rest fault some is, refl)

-- after a call that gives a unit fewer are ahead
pub fewer : {U V : Type 0} (IsView : Placed U → V → Type 0) (ahead new : Parsed U) (found : V) → Steps IsView ahead (Ok (Some found)) new
    → length new.units < length ahead.units
fewer {U} IsView ahead new found steps = let more = ap (λ (a : Parsed U). length a.units) steps.2 in omega arith

-- all calls of a reader, one after another, give what is ahead of it in order
module _ {U V : Type 0} (IsView : Placed U → V → Type 0) where
  Given : Parsed U → List (Result (Option V) Fault) → Type 0
  Given ahead results = GiveInOrder (GivesUnit IsView) (last_result ahead.fault) (last_result ahead.fault) ahead.units results

  one_call : (ahead next : Parsed U) (result : Result (Option V) Fault) (results : List (Result (Option V) Fault)) → Steps IsView ahead result next
      → Given next results → Given ahead (result ∷ results)
  unfolding Given
  one_call ahead next (Ok (Some found)) results (unit, view, is) others =
      subst (λ (a : Parsed U). Given a (Ok (Some found) ∷ results)) (sym is) ((found, refl, view), others)
  one_call ahead next (Ok None) results (is, stays) others =
      subst (λ (a : Parsed U). Given a (Ok None ∷ results)) (sym is) (refl, subst (λ (a : Parsed U). Given a results) stays others)
  one_call ahead next (Err fault) results (is, stays) others =
      subst (λ (a : Parsed U). Given a (Err fault ∷ results)) (sym is) (refl, subst (λ (a : Parsed U). Given a results) stays others)

  given : (ahead : Parsed U) (results : List (Result (Option V) Fault)) → Calls (Steps IsView) ahead results → Given ahead results
  unfolding Given
  given ahead results (no_more reader) = tt
  given ahead results (one_more reader next result others steps calls) = one_call reader next result others steps (given next others calls)

  pub all_calls : (ahead : Parsed U) (results : List (Result (Option V) Fault)) → Calls (Steps IsView) ahead results
      → GiveInOrder (GivesUnit IsView) (last_result ahead.fault) (last_result ahead.fault) ahead.units results
  unfolding Given
  all_calls ahead results calls = given ahead results calls
