-- What is left of the sends that fit a delivery (docs/DATABASE.md#send).
use Rattle.std.specs.Prelude.{◌≡◌, ◌≤◌, ◌⊎◌, true, List, Option, Some}
use Rattle.listing_tables.specs.declared.certainty.Certainty.{Certainty}
use Rattle.listing_tables.specs.declared.certainty.Certainty.TheVariants.{Sure, OneHandle, Several, Unknown}
use Rattle.listing_tables.specs.declared.certainty.Evidence.{Evidence}
use Rattle.listing_tables.specs.declared.certainty.Sought.{Sought}
use Rattle.listing_tables.specs.declared.fitting.Fit.{Fit}
use Rattle.listing_tables.specs.declared.fitting.Fitting.{Fitting}
use Rattle.listing_tables.specs.Certainty.{AreOfOneHandle, ComesAfter, HasAll, IsFitOf, IsIn, LooksAtAll}

-- each fit that is left can have been meant, and is of the handle of all that can
pub record LeavesOneHandle (evidence : Evidence) (sought : Sought) (fitting : Fitting) : Type 0 where
  pub handle : AreOfOneHandle evidence sought
  pub fits : (fit : Fit) → IsIn fitting.list.items fit
      → IsFitOf evidence sought fit × (fit.sent.generation ≡ handle.generation)

-- each send that can have been meant is in the capture, and among the fits
pub record LeavesAll (evidence : Evidence) (sought : Sought) (fitting : Fitting) : Type 0 where
  pub has_all : HasAll evidence.seen.now sought.upid.index sought.node sought.message.place sought.message.gaps
  pub looks : LooksAtAll evidence sought fitting
  pub whole : fitting.is_whole ≡ true
  pub rank : fitting.rank ≡ 0

-- what is left where all that can have been meant are of one handle, where they are of several, and where it is unknown
abbrev pub LeavesFits : Evidence → Sought → Fitting → Certainty → Type 0
LeavesFits evidence sought fitting (Sure fit) = Unit {0}
LeavesFits evidence sought fitting OneHandle = LeavesOneHandle evidence sought fitting
LeavesFits evidence sought fitting Several = LeavesAll evidence sought fitting
LeavesFits evidence sought fitting Unknown = LooksAtAll evidence sought fitting

-- The first one of two sends that has certainly not come before: the second one takes the place of the first one only if
-- it is fresh, and is sent before it.
pub record IsFirstOf (first : Option Fit) (fit : Fit) (found : Option Fit) : Type 0 where
  pub is : (it : Fit) → found ≡ Some it → (first ≡ Some it) ⊎ ((it ≡ fit) × (fit.fresh ≡ true))
  pub fresh : fit.fresh ≡ true → (it : Fit) × (found ≡ Some it) × (it.listed.index ≤ fit.listed.index)
  pub kept : (was : Fit) → first ≡ Some was → (it : Fit) × (found ≡ Some it) × (it.listed.index ≤ was.listed.index)

-- this is the first one of these sends, in the order in which they are sent, that has certainly not come before
pub record IsFirstFresh (fits : List Fit) (found : Option Fit) : Type 0 where
  pub is : (it : Fit) → found ≡ Some it → IsIn fits it × (it.fresh ≡ true)
  pub first : (other : Fit) → IsIn fits other → other.fresh ≡ true
      → (it : Fit) × (found ≡ Some it) × (it.listed.index ≤ other.listed.index)

-- of oneway sends of one generation those are left that do not come after the first one that has certainly not come before
pub record KeepsNext (old new : List Fit) : Type 0 where
  pub first : Option Fit
  pub is : IsFirstFresh old first
  pub kept : (fit : Fit) → IsIn new fit → IsIn old fit
  pub left : (it : Fit) → first ≡ Some it → (fit : Fit) → IsIn new fit → ComesAfter it fit → ⊥
  pub gone : (fit : Fit) → IsIn old fit
      → IsIn new fit ⊎ ((it : Fit) × (first ≡ Some it) × ComesAfter it fit)
