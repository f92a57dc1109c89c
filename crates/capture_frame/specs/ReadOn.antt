-- Texts that are read unit by unit: the frames of a part, the records of a frame, its entries.
use Rattle.std.specs.Prelude.{ℕ, zero, suc, ◌+◌, ◌-◌, List, [], ◌∷◌, Option, Some, None, Result, Ok, Err}
use Rattle.capture_frame.specs.declared.fault.Fault.{Fault}
use Rattle.capture_frame.specs.Units.{Placed, placed_at}

-- How a text is read. `first` is the unit that bytes at a place begin with, or their fault. `width` is how many bytes a
-- unit takes. A state `S` is what the next unit must know of those before it, and `after` gives the state after one more
-- unit.
pub record Parser (S U : Type 0) : Type 0 where
  pub first : S → ℕ → List ℕ → Result U Fault
  pub width : U → ℕ
  pub after : S → U → S

-- What a text comes to: its units up to the first fault, each at its place, and that fault. If there is no fault, they
-- are all its units.
pub record Parsed (U : Type 0) : Type 0 where
  pub units : List (Placed U)
  pub fault : Option Fault

-- no more units, and no fault
abbrev pub at_end : {U : Type 0} → Parsed U
at_end = record { units = []; fault = None }

-- a fault, and no unit before it
abbrev pub at_fault : {U : Type 0} → Fault → Parsed U
at_fault fault = record { units = []; fault = Some fault }

-- this unit, and then what comes after it
abbrev pub with_unit : {U : Type 0} → Placed U → Parsed U → Parsed U
with_unit unit later = record { units = unit ∷ later.units; fault = later.fault }

-- what comes of the unit or the fault at this place, where `later` says what comes after a unit
abbrev pub unit_or_fault : {U : Type 0} → ℕ → Result U Fault → (U → Parsed U) → Parsed U
unit_or_fault place (Ok unit) later = with_unit (placed_at place unit) (later unit)
unit_or_fault place (Err fault) later = at_fault fault

-- what bytes that begin at this place come to; the first `skip` of them belong to the unit before
abbrev pub read_on : {S U : Type 0} → Parser S U → S → (place skip : ℕ) → List ℕ → Parsed U
read_on parser state place skip [] = at_end
read_on parser state place (suc skip) (byte ∷ bytes) = read_on parser state (place + 1) skip bytes
read_on parser state place zero (byte ∷ bytes) =
    unit_or_fault place (parser.first state place (byte ∷ bytes))
    (λ unit. read_on parser (parser.after state unit) (place + 1) (parser.width unit - 1) bytes)

-- what bytes that begin at this place come to
abbrev pub parsed_by : {S U : Type 0} → Parser S U → S → ℕ → List ℕ → Parsed U
parsed_by parser state place bytes = read_on parser state place 0 bytes
