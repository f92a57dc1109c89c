-- Which sends wait for their delivery (docs/DATABASE.md#send).
use Rattle.std.specs.Prelude.{◌≡◌, ◌≤◌, ℕ, ◌+◌, ◌-◌, ◌^◌, ◌&&◌, ◌||◌, ◌⊎◌, Bool, not, true, false, List, ◌++◌, map, IsTrue, nat_eq}
use Rattle.std.specs.Ordering.{is_le, is_lt, nat_cmp, ordering_then}
use Rattle.std.specs.declared.cmp.Ordering.{Ordering}
use Rattle.std.specs.BTreeSet.{BTreeSet, contains}
use Rattle.std.specs.List.{filter}
use Rattle.std.specs.Option.{unwrap_or}
use Rattle.indexmap.specs.IndexMap.{get}
use Rattle.listing_tables.specs.declared.waiting.Doubt.{Doubt}
use Rattle.listing_tables.specs.declared.waiting.Listed.{Listed}
use Rattle.listing_tables.specs.declared.waiting.Look.{Look}
use Rattle.listing_tables.specs.declared.waiting.Waiting.{Waiting}

-- a send by its key, its list and its index
abbrev pub Entry : Type 0
Entry = ℕ × ℕ × ℕ

-- by the three numbers, in their order
abbrev pub entry_cmp : Entry → Entry → Ordering
entry_cmp a b = ordering_then (ordering_then (nat_cmp a.0 b.0) (nat_cmp a.1 b.1)) (nat_cmp a.2 b.2)

abbrev pub entry_of : Listed → Entry
entry_of send = (send.key, send.list, send.index)

-- a send waits: no delivery has taken it, or one has by guess
abbrev pub waits : Waiting → Entry → Bool
waits waiting send = contains entry_cmp waiting.untaken send || contains entry_cmp waiting.guessed send

-- a send is in doubt: it is one of several of which some came, but not which
abbrev pub in_doubt : Waiting → Entry → Bool
in_doubt waiting send = contains entry_cmp waiting.doubted (send.0, send.2, send.1)

-- of the sends of a key that are in doubt: how many they are, and how many of them came at least
abbrev pub doubt_of : Waiting → ℕ → Doubt
doubt_of waiting key = unwrap_or (get nat_eq waiting.doubts key) (record { sends = 0; came = 0 })

-- a send is in doubt, and of all sends of its key in doubt at most one did not come
pub record MayHaveCome (waiting : Waiting) (send : Entry) : Type 0 where
  pub doubted : IsTrue (in_doubt waiting send)
  pub came : (doubt_of waiting send.0).sends ≤ (doubt_of waiting send.0).came + 1

-- no send waits, and none is in doubt
pub record HasNone (waiting : Waiting) : Type 0 where
  pub waits : (send : Entry) → waits waiting send ≡ false
  pub doubted : (send : Entry) → in_doubt waiting send ≡ false
  pub counts : (key : ℕ) → doubt_of waiting key ≡ record { sends = 0; came = 0 }

-- what waited still waits
abbrev pub AllWait : Waiting → Waiting → Type 0
AllWait old new = (send : Entry) → IsTrue (waits old send) → IsTrue (waits new send)

-- what waited still waits, but for sends in doubt of which all but one came
abbrev pub OthersWait : Waiting → Waiting → Type 0
OthersWait old new = (send : Entry) → IsTrue (waits old send) → IsTrue (waits new send) ⊎ MayHaveCome old send

-- the same, but for this send too
abbrev pub OthersWaitBut : Entry → Waiting → Waiting → Type 0
OthersWaitBut gone old new =
    (send : Entry) → IsTrue (waits old send) → IsTrue (waits new send) ⊎ (send ≡ gone) ⊎ MayHaveCome old send

-- whether a send has this key and this list
abbrev pub is_in : ℕ → ℕ → Entry → Bool
is_in key list send =
    is_le (entry_cmp (key, list, 0) send) && not (is_lt (entry_cmp (key, list, 2 ^ 32 - 1) send))

-- those of a key and a list, in the order of their indices
abbrev pub sends_in : BTreeSet Entry → ℕ → ℕ → List Entry
sends_in sends key list = filter (is_in key list) sends.keys

abbrev pub look_at : Bool → Entry → Look
look_at guessed send = record { listed = record { key = send.0; list = send.1; index = send.2 }; guessed = guessed }

-- all that wait in a list or in list 0, those before that no guess took
abbrev pub all_looks : Waiting → ℕ → ℕ → List Look
all_looks waiting key list =
    map (look_at false) (sends_in waiting.untaken key list ++ sends_in waiting.untaken key 0)
    ++ map (look_at true) (sends_in waiting.guessed key list ++ sends_in waiting.guessed key 0)
