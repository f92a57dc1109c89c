-- Which of the sends that fit a delivery is taken by guess (docs/DATABASE.md#send).
use Rattle.std.specs.Prelude.{◌≡◌, ◌≢◌, ◌<◌, ◌≤◌, ◌⊎◌, ◌^◌, ℕ, Bool, false, List, Option, None, Some, if◌then◌else◌}
use Rattle.listing_tables.specs.declared.fitting.Fit.{Fit}
use Rattle.listing_tables.specs.declared.fitting.Meant.{Meant}
use Rattle.listing_tables.specs.declared.fitting.Meant.TheVariants.{This, Unknown, Other}
use Rattle.listing_tables.specs.Certainty.{IsIn}

-- a send that may be guessed: no guess took it, and it is not known to go elsewhere
pub record MayBeGuessed (fit : Fit) : Type 0 where
  pub free : fit.guessed ≡ false
  pub may : fit.meant ≢ Other

-- sends that are known to go to the node come first
abbrev pub meant_order : Meant → ℕ
meant_order This = 0
meant_order Unknown = 1
meant_order Other = 2

-- then of calls the one that is closed first, an open one last
abbrev pub closed_at : Option ℕ → ℕ
closed_at None = 2 ^ 32
closed_at (Some place) = place

-- a oneway send is not closed
abbrev pub call_order : Bool → Option ℕ → ℕ
call_order oneway closer = if oneway then 0 else closed_at closer

-- three numbers in their order: the first ones decide, then the second ones, then the third ones
pub data AreInOrder : ℕ → ℕ → ℕ → ℕ → ℕ → ℕ → Type 0 where
  by_first : {a b c x y z : ℕ} → a < x → AreInOrder a b c x y z
  by_second : {a b c x y z : ℕ} → a ≡ x → b < y → AreInOrder a b c x y z
  by_third : {a b c x y z : ℕ} → a ≡ x → b ≡ y → c ≤ z → AreInOrder a b c x y z

-- the first of two sends is guessed rather than the second, or they are sent by one message
abbrev pub IsNoLater : Bool → Fit → Fit → Type 0
IsNoLater oneway one other =
    AreInOrder (meant_order one.meant) (call_order oneway one.closer) one.listed.index
    (meant_order other.meant) (call_order oneway other.closer) other.listed.index

-- of the one that is guessed so far and a further send the one that is guessed
pub record IsGuessOf (oneway : Bool) (best : Option Fit) (fit : Fit) (found : Option Fit) : Type 0 where
  pub is : (it : Fit) → found ≡ Some it → (best ≡ Some it) ⊎ ((it ≡ fit) × MayBeGuessed fit)
  pub new : MayBeGuessed fit → (it : Fit) × (found ≡ Some it) × IsNoLater oneway it fit
  pub kept : (was : Fit) → best ≡ Some was → (it : Fit) × (found ≡ Some it) × IsNoLater oneway it was

-- of all sends that may be guessed this is guessed: none comes before it
pub record IsGuess (oneway : Bool) (fits : List Fit) (found : Option Fit) : Type 0 where
  pub is : (it : Fit) → found ≡ Some it → IsIn fits it × MayBeGuessed it
  pub first : (other : Fit) → IsIn fits other → MayBeGuessed other
      → (it : Fit) × (found ≡ Some it) × IsNoLater oneway it other
