-- What the walks of pairing learn, and what they leave as it is (docs/DATABASE.md#send).
use Rattle.std.specs.Prelude.{◌≡◌, ◌≢◌, ◌==◌, if◌then◌else◌, ℕ, nat_lt, Bool, false, Option, Some, None, slice_get}
use Rattle.listing_tables.specs.declared.marks.Marked.{Marked}
use Rattle.listing_tables.specs.declared.marks.Marked.TheVariants.{Unmarked, By, Several as ByOthers}
use Rattle.listing_tables.specs.declared.meanings.Known.{Known}
use Rattle.listing_tables.specs.declared.meanings.Known.TheVariants.{Nothing, One, Several}
use Rattle.listing_tables.specs.declared.meanings.Meaning.{Meaning}
use Rattle.listing_tables.specs.declared.meanings.Meanings.{Meanings}
use Rattle.listing_tables.specs.declared.seen.Seen.{Seen}
use Rattle.listing_tables.specs.declared.seen.Watched.{Watched}

-- marked by one message more: by this one if by none before, else by several
abbrev pub marked_also : Marked → ℕ → Marked
marked_also Unmarked index = By index
marked_also (By other) index = ByOthers
marked_also ByOthers index = ByOthers

-- what is known of a generation of which two things are known
abbrev pub known_of_two : Known → Known → Known
known_of_two Nothing other = other
known_of_two (One node) Nothing = One node
known_of_two (One node) (One same) = if node == same then One node else Several
known_of_two (One node) Several = Several
known_of_two Several other = Several

-- so many gaps do not come before the begin of a generation
abbrev pub IsPastGap : Meanings → ℕ → ℕ → Type 0
IsPastGap meanings generation gaps =
    (meaning : Meaning) × (slice_get meanings.list.all.items generation ≡ Some meaning) × (meaning.gaps ≢ gaps)

-- the node that a generation is known to mean from its begin on
abbrev pub MeansFirst : Meanings → ℕ → ℕ → Type 0
MeansFirst meanings generation node =
    (meaning : Meaning) × (slice_get meanings.list.all.items generation ≡ Some meaning) × (meaning.known ≡ One node)

-- a thread has no frame between the last gap and its last frame
abbrev pub HasNoFrameBefore : Seen → ℕ → Type 0
HasNoFrameBefore seen utid =
    (thread : Watched) × (slice_get seen.threads.all.items utid ≡ Some thread) × (thread.earlier ≢ Some thread.last)

-- something was said, and before a place
abbrev pub is_said_before : Option ℕ → ℕ → Bool
is_said_before None place = false
is_said_before (Some said) place = nat_lt said place

-- a thread has said before a place that it takes calls
abbrev pub TakesCalls : Seen → ℕ → ℕ → Type 0
TakesCalls seen utid place =
    (thread : Watched) × (slice_get seen.threads.all.items utid ≡ Some thread)
    × (is_said_before thread.takes_calls place ≢ false)
