-- Tests in their order, each with the fault that it finds.
use Rattle.std.specs.Prelude.{ℕ, nat_lt, Bool, true, if◌then◌else◌, List, [], ◌∷◌, Option, Some, None, Result, Ok, Err}
use Rattle.capture_frame.specs.declared.fault.Fault.{Fault}
use Rattle.capture_frame.specs.declared.fault.FaultKind.{FaultKind}

-- what is read if it passes these tests, or else what goes with the first test that it fails
abbrev pub tested : {U K : Type 0} → List (Bool × K) → U → Result U K
tested [] unit = Ok unit
tested (test ∷ tests) unit = if test.0 then tested tests unit else Err test.1

-- a fault of this kind at this place
abbrev pub fault_at : FaultKind → ℕ → Fault
fault_at kind place = record { kind = kind; place = place }

-- what was read, or a fault of this kind at this place
abbrev pub at_place : {U : Type 0} → ℕ → Result U FaultKind → Result U Fault
at_place place (Ok unit) = Ok unit
at_place place (Err kind) = Err (fault_at kind place)

-- whether the number is above the one before; true if there is none before
abbrev pub is_above : Option ℕ → ℕ → Bool
is_above None number = true
is_above (Some last) number = nat_lt last number
