-- Lists whose places rise.
use Rattle.std.specs.Prelude.{ℕ, ◌+◌, ◌<◌, List, ◌++◌, length, All}
use Rattle.std.proofs.Common.{subst, ◌∙◌, arith, length-append, get_or}
use Rattle.std.proofs.lemmas.List.{get_or_append_left, get_or-append-add, get_or_default}
use Rattle.summary_law.specs.Fits.{PlacesRise}

-- if the places of a list rise, those of its first half are below those of its second
pub rising_apart : {I : Type 0} (place : I → ℕ) (first second : List I)
    → PlacesRise place (first ++ second) → All (λ a. All (λ b. place a < place b) second) first
rising_apart {I} place first second rise i d inside j e within =
    let long = length-append first second in
    subst (λ (x : I). place (get_or first i d) < place x) (get_or-append-add first second j e)
    (subst (λ (x : I). place x < place (get_or (first ++ second) (length first + j) e))
    (get_or_append_left first second e i inside ∙ get_or_default first i e d inside)
    (rise i (length first + j) e (omega arith) (omega arith)))
