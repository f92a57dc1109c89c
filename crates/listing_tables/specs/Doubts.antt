-- How the sends in doubt are counted, of which some came, but not which (docs/DATABASE.md#send).
use Rattle.std.specs.Prelude.{◌≡◌, ◌≤◌, ◌<◌, ℕ, ◌+◌, ◌-◌, false, true, None, nat_eq}
use Rattle.indexmap.specs.IndexMap.{get}
use Rattle.listing_tables.specs.declared.waiting.Listed.{Listed}
use Rattle.listing_tables.specs.declared.waiting.Waiting.{Waiting}
use Rattle.listing_tables.specs.Waiting.{doubt_of, entry_of, in_doubt}

-- a send is in doubt, and is counted once
pub record CountsDoubt (old : Waiting) (send : Listed) (new : Waiting) : Type 0 where
  pub there : in_doubt new (entry_of send) ≡ true
  pub first : in_doubt old (entry_of send) ≡ false
      → doubt_of new send.key ≡ record { sends = (doubt_of old send.key).sends + 1; came = (doubt_of old send.key).came }
  pub again : in_doubt old (entry_of send) ≡ true → new.doubts ≡ old.doubts

-- of a key of which these many are in doubt and came, nothing is counted any more if all came
pub record CountsLeft (sends came : ℕ) (key : ℕ) (new : Waiting) : Type 0 where
  pub some : came < sends → doubt_of new key ≡ record { sends = sends; came = came }
  pub all : sends ≤ came → get nat_eq new.doubts key ≡ None

-- one more of the sends of a key came
abbrev pub CountsCame : Waiting → ℕ → Waiting → Type 0
CountsCame old key new = CountsLeft (doubt_of old key).sends ((doubt_of old key).came + 1) key new

-- A send that was in doubt is not counted any more, nor so many of what came. If it was not in doubt, the counts stay.
pub record CountsLeaving (old : Waiting) (send : Listed) (came : ℕ) (new : Waiting) : Type 0 where
  pub doubted : in_doubt old (entry_of send) ≡ true
      → CountsLeft ((doubt_of old send.key).sends - 1) ((doubt_of old send.key).came - came) send.key new
  pub other : in_doubt old (entry_of send) ≡ false
      → CountsLeft (doubt_of old send.key).sends (doubt_of old send.key).came send.key new
