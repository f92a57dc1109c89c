-- The buffers of the raw table delivery, each with the record that frees it (docs/REPORT.md): a delivery opens its
-- address, and a free closes it, as `pending_ledger` has it.
use Rattle.std.specs.Prelude.{◌≡◌, ℕ, ◌+◌, ◌==◌, ◌&&◌, if◌then◌else◌, Bool, Option, Some, None, is_none, option_map}
use Rattle.std.specs.Prelude.{List, [], ◌∷◌, ◌++◌, map, find, slice_get, slice_set}
use Rattle.std.specs.Option.{option_or}
use Rattle.event_core.specs.declared.pending.KeyEvent.{KeyEvent}
use Rattle.event_core.specs.declared.pending.PendingChange.TheVariants.{Open, Close}
use Rattle.indexmap.specs.IndexMap.{get}
use Rattle.pending_ledger.specs.Pending.{closes, is_close, place_of}
use Rattle.summary_law.specs.Readings.{read_all}
use Rattle.listing_tables.specs.declared.buffers.Buffer.{Buffer}
use Rattle.listing_tables.specs.declared.buffers.Buffers.{Buffers}

-- an address of a process, by the number of the process and the address there
abbrev pub Address : Type 0
Address = ℕ × ℕ

-- a delivery or a free: the address that it opens or closes, and by which record
abbrev pub AddressEvent : Type 0
AddressEvent = Address × KeyEvent

-- whether two addresses are the same one of the same process
abbrev pub same_address : Address → Address → Bool
same_address a b = (a.0 == b.0) && (a.1 == b.1)

-- a delivery at an address, by the record at this place
abbrev pub delivery_at : Address → ℕ → AddressEvent
delivery_at address place = (address, record { place = place; change = Open })

-- a free of an address, by the record at this place
abbrev pub free_at : Address → ℕ → AddressEvent
free_at address place = (address, record { place = place; change = Close })

-- a delivery, and the place of the record that frees its buffer, if one does
pub record FreedDelivery : Type 0 where
  pub delivery : AddressEvent
  pub freed : Option ℕ

-- the place of the first of these records that frees the address
abbrev pub first_free : Address → List AddressEvent → Option ℕ
first_free address later = option_map place_of (find (closes same_address address) later)

-- a delivery with the first later record that frees its address; nothing of a free
abbrev pub delivery_read : List AddressEvent → AddressEvent → List AddressEvent → Option FreedDelivery
delivery_read before item later =
    if is_close item.1.change then None else Some (record { delivery = item; freed = first_free item.0 later })

-- the deliveries among these deliveries and frees, each with the record that frees it
abbrev pub deliveries_of : List AddressEvent → List FreedDelivery
deliveries_of items = read_all delivery_read items

-- where a delivery is
abbrev pub delivery_place : FreedDelivery → ℕ
delivery_place found = place_of found.delivery

-- whether no record frees it
abbrev pub is_leaked : FreedDelivery → Bool
is_leaked found = is_none found.freed

-- what the columns place and freed_by of a delivery are
pub record BufferRow : Type 0 where
  pub place : ℕ
  pub freed : Option ℕ

-- those of a delivery by the definitions
abbrev pub row_of_delivery : FreedDelivery → BufferRow
row_of_delivery found = record { place = delivery_place found; freed = found.freed }

-- those of a buffer of the table
abbrev pub row_of_buffer : Buffer → BufferRow
row_of_buffer buffer = record { place = buffer.place; freed = buffer.freed }

-- ---- what `Buffers` keeps to find them

-- whether a delivery is at this address and nothing frees it
abbrev pub is_held_at : Address → FreedDelivery → Bool
is_held_at address found = same_address found.delivery.0 address && is_leaked found

-- the index of the last delivery that is held at this address, where the first one has the index n
abbrev pub last_held_from : ℕ → Address → List FreedDelivery → Option ℕ
last_held_from n address [] = None
last_held_from n address (found ∷ later) =
    option_or (last_held_from (n + 1) address later) (if is_held_at address found then Some n else None)

-- the index of the last delivery that is held at this address
abbrev pub last_held : Address → List FreedDelivery → Option ℕ
last_held address deliveries = last_held_from 0 address deliveries

-- to each of these deliveries belongs one of these indices; of a held one it is that of the last delivery before it
-- that is held at its address
abbrev pub AreEarlier : List FreedDelivery → List (Option ℕ) → List FreedDelivery → Type 0
AreEarlier before [] [] = Unit {0}
AreEarlier before (index ∷ indices) (found ∷ later) =
    (found.freed ≡ None → index ≡ last_held found.delivery.0 before) × AreEarlier (before ++ found ∷ []) indices later
AreEarlier before [] (found ∷ later) = ⊥
AreEarlier before (index ∷ indices) [] = ⊥

-- the index that a buffer has of the one before it at its address
abbrev pub earlier_of : Buffer → Option ℕ
earlier_of buffer = buffer.earlier

-- the value has a buffer for each delivery among these deliveries and frees, with the record that frees it, and finds
-- those that are held at an address
pub record BuffersSum (buffers : Buffers) (items : List AddressEvent) : Type 0 where
  pub rows : map row_of_buffer buffers.list.all.items ≡ map row_of_delivery (deliveries_of items)
  pub latest : (address : Address) → get same_address buffers.latest address ≡ last_held address (deliveries_of items)
  pub earlier : AreEarlier [] (map earlier_of buffers.list.all.items) (deliveries_of items)

-- whatever deliveries and frees the old value has the buffers of, the new one has those of these with this one after them
abbrev pub SumsOneMore : Buffers → AddressEvent → Buffers → Type 0
SumsOneMore old item new =
    (items : List AddressEvent) → BuffersSum old items → BuffersSum new (items ++ item ∷ [])

-- the buffer at this index is freed by the record at this place, and is the last one that is freed; the index of the one
-- before it is given
pub record Frees (old : Buffers) (index place : ℕ) (new : Buffers) (given : Option ℕ) : Type 0 where
  pub latest : new.latest ≡ old.latest
  pub rows : (buffer : Buffer) → slice_get old.list.all.items index ≡ Some buffer
      → map row_of_buffer new.list.all.items
      ≡ slice_set (map row_of_buffer old.list.all.items) index (record (row_of_buffer buffer) { freed = Some place })
  pub earlier : (buffer : Buffer) → slice_get old.list.all.items index ≡ Some buffer
      → map earlier_of new.list.all.items ≡ map earlier_of old.list.all.items
  pub next : (buffer : Buffer) → slice_get old.list.all.items index ≡ Some buffer → given ≡ buffer.earlier
  pub freed : new.freed.all.items ≡ old.freed.all.items ++ index ∷ []
