-- What is read of each element of a list, by a reading that sees what comes before the element and what comes after it.
use Rattle.std.specs.Prelude.{◌≡◌, Bool, true, if◌then◌else◌, List, [], ◌∷◌, ◌++◌, filter, Option, Some, None}
use Rattle.std.specs.List.{cons_option, list_any}

-- what is read of each element, in order; `before` comes before the list
abbrev pub read_each : {X Y : Type 0} → (List X → X → List X → Option Y) → List X → List X → List Y
read_each read before [] = []
read_each read before (x ∷ later) = cons_option (read before x later) (read_each read (before ++ x ∷ []) later)

-- what is read of each element of a whole list
abbrev pub read_all : {X Y : Type 0} → (List X → X → List X → Option Y) → List X → List Y
read_all read xs = read_each read [] xs

-- the element itself, if it passes a test that sees what comes before it and what comes after it
abbrev pub chosen : {X : Type 0} → (List X → X → List X → Bool) → List X → X → List X → Option X
chosen test before x later = if test before x later then Some x else None

-- the elements that have this key
abbrev pub with_key : {K X : Type 0} → (K → K → Bool) → (X → K) → K → List X → List X
with_key eq key k xs = filter (λ x. eq k (key x)) xs

-- a reading by key: of what comes before the element and after it, it sees only what has the element's key
abbrev pub by_key : {K X Y : Type 0} → (K → K → Bool) → (X → K) → (List X → X → List X → Option Y)
    → List X → X → List X → Option Y
by_key eq key read before x later = read (with_key eq key (key x) before) x (with_key eq key (key x) later)

-- the element has one of the keys
abbrev pub HasKeyIn : {K X : Type 0} → (K → K → Bool) → (X → K) → List K → X → Type 0
HasKeyIn eq key keys x = list_any (λ k. eq k (key x)) keys ≡ true
