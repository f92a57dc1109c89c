-- The tally of held references while it is made. No public clause names these definitions.
use Rattle.std.specs.Prelude.{ℕ, ◌+◌, ◌≤◌, ◌^◌, List, ◌++◌, length}
use Rattle.std.specs.List.{filter_map, flat_map}
use Rattle.handle_ledger.specs.Held.{Held, held_cmp}
use Rattle.object_view.specs.Objects.{ObjectText, objects_of}
use Rattle.summary_law.specs.Tally.{TallySums}
use Rattle.summary_law.specs.declared.tally.Tally.{Tally}
use Rattle.transaction_view.specs.declared.entry.Entry.{Entry}
use Rattle.audit_findings.specs.Held.{reference_of, unweighed}

-- the tally counts these references
abbrev pub CountsHeld : Tally Held → List Held → Type 0
CountsHeld tally held = TallySums held_cmp tally (unweighed held)

-- the tally has room for n more references: with them it counts at most 2^32
abbrev pub HasRoom : Tally Held → ℕ → Type 0
HasRoom tally n = (held : List Held) × CountsHeld tally held × (length held + n ≤ 2 ^ 32)

-- if the old tally has room for n more, the new one counts what the old one counts, followed by these references
abbrev pub CountsMore : Tally Held → ℕ → List Held → Tally Held → Type 0
CountsMore old n more new =
    (held : List Held) → CountsHeld old held → length held + n ≤ 2 ^ 32 → CountsHeld new (held ++ more)

-- the new tally counts what the old one counts, and the references among the good objects of this attachment, which are
-- those before the first bad one
abbrev pub CountsObjects : Tally Held → (body list : List ℕ) → Tally Held → Type 0
CountsObjects old body list new = CountsMore old (length list) (filter_map reference_of (objects_of body list).good) new

-- the good objects of an entry's attachment: those before the first bad one
abbrev pub good_in : Entry → List ObjectText
good_in entry = (objects_of entry.body.now entry.offsets.now).good

-- the tally counts the references among the good objects of these entries' attachments
abbrev pub CountsEntries : List Entry → Tally Held → Type 0
CountsEntries entries tally = CountsHeld tally (filter_map reference_of (flat_map good_in entries))
