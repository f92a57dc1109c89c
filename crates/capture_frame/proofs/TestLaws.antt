-- What a list of tests says where it passes: all of them hold.
use Rattle.std.proofs.Common.{◌≡◌, ℕ, Bool, true, false, List, [], ◌∷◌, Result, Ok, Err, refl, sym, ap}
use Rattle.capture_frame.specs.declared.fault.Fault.{Fault}
use Rattle.capture_frame.specs.declared.fault.FaultKind.{FaultKind}
use Rattle.capture_frame.specs.Tests.{tested, fault_at, at_place}

-- all of these tests hold
abbrev pub AllHold : {K : Type 0} → List (Bool × K) → Type 0
AllHold [] = Unit {0}
AllHold (test ∷ tests) = (test.0 ≡ true) × AllHold tests

pub passed : {U K : Type 0} (tests : List (Bool × K)) (unit found : U) → tested tests unit ≡ Ok found → (found ≡ unit) × AllHold tests
passed [] unit found is = (cc, tt)
passed ((true, kind) ∷ tests) unit found is = let rest = passed tests unit found is in (rest.0, (refl, rest.1))
passed ((false, kind) ∷ tests) unit found is = absurd (cc)

-- tests that all hold pass what is read
pub passes : {U K : Type 0} (tests : List (Bool × K)) (unit : U) → AllHold tests → tested tests unit ≡ Ok unit
passes [] unit hold = refl
passes ((true, kind) ∷ tests) unit hold = passes tests unit hold.1
passes ((false, kind) ∷ tests) unit hold = let no : ⊥ = let is = hold.0 in cc in absurd no

-- the same at a place
pub found_there : {U : Type 0} (place : ℕ) (found : Result U FaultKind) (unit : U) → at_place place found ≡ Ok unit → found ≡ Ok unit
found_there place (Ok other) unit is = let same : other ≡ unit = cc in ap Ok same
found_there place (Err kind) unit is = absurd (cc)

pub fault_there : {U : Type 0} (place : ℕ) (found : Result U FaultKind) (fault : Fault) → at_place place found ≡ Err fault
    → (found ≡ Err fault.kind) × (fault.place ≡ place)
fault_there place (Ok unit) fault is = absurd (cc)
fault_there place (Err kind) fault is =
    let same : fault_at kind place ≡ fault = cc in (ap (λ (f : Fault). Err f.kind) same, ap (λ (f : Fault). f.place) (sym same))
