-- A summary of what is picked from the things of a list.
use Rattle.std.specs.Prelude.{List, Option}
use Rattle.std.specs.List.{filter_map}
use Rattle.std.proofs.Common.{subst}
use Rattle.std.proofs.lemmas.List.Elements.{filter_map-append}
use Rattle.summary_law.specs.Summary.{FitsInHalves}

-- the value sums what is picked from the things
abbrev pub SumsPicked : {S E I : Type 0} → (E → Option I) → (S → List I → Type 0) → S → List E → Type 0
SumsPicked picks Sums value things = Sums value (filter_map picks things)

-- if the items that are picked from a list fit, so do the items that are picked from each of its halves
pub picked_halves : {E I : Type 0} (picks : E → Option I) (Fits : List I → Type 0) → FitsInHalves Fits
    → FitsInHalves (λ (things : List E). Fits (filter_map picks things))
picked_halves picks Fits parts first second fits =
    parts (filter_map picks first) (filter_map picks second) (subst Fits (filter_map-append picks first second) fits)
