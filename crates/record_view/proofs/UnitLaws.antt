-- More of what holds of every text that is read unit by unit.
use Rattle.std.proofs.Common.{◌≡◌, ℕ, ◌+◌, ◌<◌, ◌≤◌, List, [], ◌∷◌, length, drop, AllPairs, sum_by, Option, None, Result, Ok, Err, refl, sym, ap, ap₂, subst, ◌∙◌, length-drop, arith}
use Rattle.std.proofs.lemmas.List.Sums.{sum_by-cons}
use Rattle.capture_frame.specs.declared.fault.Fault.{Fault}
use Rattle.capture_frame.specs.ReadOn.{Parser, Parsed, with_unit, parsed_by}
use Rattle.capture_frame.specs.Units.{Placed, placed_at}
use Rattle.capture_frame.proofs.ReadOnLaws.{HasWidths, by_units, unit_here, fault_here, units_placed, AreInTurn, placed_apart}

module _ {S U : Type 0} (parser : Parser S U) (widths : HasWidths parser) where
  -- each unit ends before every later one begins
  pub units_apart : (state : S) (place : ℕ) (bytes : List ℕ) → AllPairs (AreInTurn parser.width) (parsed_by parser state place bytes).units
  units_apart state place bytes = subst (AllPairs (AreInTurn parser.width)) (sym (units_placed parser widths state place bytes)) (placed_apart parser.width place _)

  -- the units together are no longer than the bytes
  pub units_fit : (state : S) (place : ℕ) (bytes : List ℕ) → sum_by (λ there. parser.width there.unit) (parsed_by parser state place bytes).units ≤ length bytes
  units_fit = by_units parser widths (λ state place bytes found. sum_by (λ there. parser.width there.unit) found.units ≤ length bytes)
      (λ state place. omega arith) (λ state place bytes fault some is. omega arith)
      (λ state place bytes unit later some is less.
      omega (
        arith,
        less,
        sum_by-cons (λ (there : Placed U). parser.width there.unit) (placed_at place unit) later.units,
        length-drop (parser.width unit) bytes,
        widths.fits state place bytes unit is,
      ))

  -- bytes that come to a unit and more begin with it, and the others are what comes after it
  pub record IsFirst (state : S) (place : ℕ) (bytes : List ℕ) (unit : Placed U) (later : Parsed U) : Type 0 where
    pub at : unit.place ≡ place
    pub is : parser.first state place bytes ≡ Ok unit.unit
    pub rest : later ≡ parsed_by parser (parser.after state unit.unit) (place + parser.width unit.unit) (drop (parser.width unit.unit) bytes)

  by_first : (state : S) (place b : ℕ) (bytes : List ℕ) (unit : Placed U) (later : Parsed U) (first : Result U Fault) → parser.first state place (b ∷ bytes) ≡ first
      → parsed_by parser state place (b ∷ bytes) ≡ with_unit unit later → IsFirst state place (b ∷ bytes) unit later
  by_first state place b bytes unit later (Err fault) first is =
      let wrong = sym (fault_here parser state place (b ∷ bytes) fault (omega arith) first) ∙ is in
      let no : [] ≡ unit ∷ later.units = ap (λ (found : Parsed U). found.units) wrong in absurd (cc)
  by_first state place b bytes unit later (Ok u) first is =
      let same = sym (unit_here parser state place (b ∷ bytes) u (omega arith) first (widths.some u)) ∙ is in
      let rest = parsed_by parser (parser.after state u) (place + parser.width u) (drop (parser.width u) (b ∷ bytes)) in
      let units : placed_at place u ∷ rest.units ≡ unit ∷ later.units = ap (λ (found : Parsed U). found.units) same in
      let first_is : placed_at place u ≡ unit = cc in
      let others : rest.units ≡ later.units = cc in
      let made : List (Placed U) → Option Fault → Parsed U = λ units fault. record { units = units; fault = fault } in
      subst (λ (x : Placed U). IsFirst state place (b ∷ bytes) x later) first_is
      (record { at = refl; is = first; rest = sym (ap₂ made others (ap (λ (found : Parsed U). found.fault) same)) })

  pub is_first : (state : S) (place : ℕ) (bytes : List ℕ) (unit : Placed U) (later : Parsed U) → parsed_by parser state place bytes ≡ with_unit unit later
      → IsFirst state place bytes unit later
  is_first state place [] unit later is = let no : [] ≡ unit ∷ later.units = ap (λ (found : Parsed U). found.units) is in absurd (cc)
  is_first state place (b ∷ bytes) unit later is = by_first state place b bytes unit later (parser.first state place (b ∷ bytes)) refl is

  -- bytes that come to no fault begin with a unit, if there are any
  pub first_good : (state : S) (place : ℕ) (bytes : List ℕ) → 0 < length bytes → (parsed_by parser state place bytes).fault ≡ None
      → (unit : U) × (parser.first state place bytes ≡ Ok unit)
  first_good state place bytes some good =
      elim (parser.first state place bytes) as (λ r. parser.first state place bytes ≡ r → (unit : U) × (parser.first state place bytes ≡ Ok unit)) [
        | Ok unit ↦ λ is. (unit, is)
        | Err fault ↦ λ is.
            let bad = ap (λ (found : Parsed U). found.fault) (fault_here parser state place bytes fault some is) in absurd (cc)
      ] refl
