-- What `add` and `join` of a summary ask and give, for any relation `Sums` between a value and the lists that it sums,
-- and any lists `Fits` that can be summarised.
use Rattle.std.specs.Prelude.{List, [], ◌∷◌, ◌++◌}

-- the value sums some list that can be summarised with the item after it
abbrev pub CanAdd : {S I : Type 0} → (S → List I → Type 0) → (List I → Type 0) → S → I → Type 0
CanAdd {S} {I} Sums Fits value item = (items : List I) × Sums value items × Fits (items ++ item ∷ [])

-- whatever list the old value sums, the new one sums that list with the item after it, if that can be summarised
abbrev pub Adds : {S I : Type 0} → (S → List I → Type 0) → (List I → Type 0) → S → I → S → Type 0
Adds {S} {I} Sums Fits old item new =
    (items : List I) → Sums old items → Fits (items ++ item ∷ []) → Sums new (items ++ item ∷ [])

-- the values sum some lists that can be summarised as one followed by the other
abbrev pub CanJoin : {S I : Type 0} → (S → List I → Type 0) → (List I → Type 0) → S → S → Type 0
CanJoin {S} {I} Sums Fits earlier later =
    (first : List I) × (second : List I) × Sums earlier first × Sums later second × Fits (first ++ second)

-- whatever lists the values sum, the joined one sums the one followed by the other, if that can be summarised
abbrev pub Joins : {S I : Type 0} → (S → List I → Type 0) → (List I → Type 0) → S → S → S → Type 0
Joins {S} {I} Sums Fits earlier later joined =
    (first second : List I) → Sums earlier first → Sums later second → Fits (first ++ second)
    → Sums joined (first ++ second)

-- both halves of a list that can be summarised can be summarised
abbrev pub FitsInHalves : {I : Type 0} → (List I → Type 0) → Type 0
FitsInHalves {I} Fits = (first second : List I) → Fits (first ++ second) → Fits first × Fits second
