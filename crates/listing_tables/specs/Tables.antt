-- What is written of each table that is written after the walk (docs/DATABASE.md).
use Rattle.std.specs.Prelude.{◌≡◌, ℕ, List, Option, ⊤}
use Rattle.std.specs.Io.KnownBytes.{Keeps}
use Rattle.std.specs.List.{flat_map}
use Rattle.listing_tables.specs.Columns.{WritesRows}
use Rattle.listing_tables.specs.Generations.{generation_rows}
use Rattle.listing_tables.specs.Messages.{delivery_rows, send_rows}
use Rattle.listing_tables.specs.Spans.{process_rows, thread_rows}
use Rattle.listing_tables.specs.Steps.{AreCallsOf, marked_in}
use Rattle.listing_fields.specs.declared.table.Table.{Table}
use Rattle.listing_fields.specs.declared.table.Table.TheVariants.{Capture, Process, Thread, Frame, Record, Interface, Service, Object, Call, Generation, Send, Delivery, Slice, Level}
use Rattle.listing_tables.specs.declared.tables.Tables.{Tables}
use Rattle.listing_tables.specs.declared.traffic.Traffic.{Traffic}
use Rattle.listing_tables.specs.Turns.{PairsTraffic}
use Rattle.listing_tables.specs.Walk.{counted_frames}

-- Each process, thread, generation, send and delivery in the walk's lists has its row, in order, and nothing else is
-- written. Nothing is written of a table that is written while the walk goes on. Of the others nothing is said.
abbrev pub WritesTable : Tables → Table → Option (List ℕ) → Option (List ℕ) → Type 0
WritesTable tables Capture old new = ⊤
WritesTable tables Process old new = WritesRows old new (process_rows tables.spans.processes.entries)
WritesTable tables Thread old new = WritesRows old new (thread_rows tables.spans.threads.entries)
WritesTable tables Frame old new = Keeps old new
WritesTable tables Record old new = Keeps old new
WritesTable tables Interface old new = ⊤
WritesTable tables Service old new = ⊤
WritesTable tables Object old new = Keeps old new
WritesTable tables Call old new = Keeps old new
WritesTable tables Generation old new =
    WritesRows old new (generation_rows tables.traffic.handles.generations.list.all.items)
WritesTable tables Send old new = WritesRows old new (send_rows tables.traffic.messages.list.all.items)
WritesTable tables Delivery old new = WritesRows old new (
    delivery_rows tables.traffic.messages.list.all.items tables.traffic.buffers.list.all.items tables.calls.all.items)
WritesTable tables Slice old new = ⊤
WritesTable tables Level old new = ⊤

-- the lists of which the tables are written are those that pairing has made, and nothing has changed in them since
pub record ArePaired (tables : Tables) : Type 0 where
  pub before : Traffic
  pub after : Traffic
  pub pairs : PairsTraffic before tables.calls after
  pub messages : tables.traffic.messages ≡ after.messages
  pub buffers : tables.traffic.buffers ≡ after.buffers
  pub generations : tables.traffic.handles.generations ≡ after.handles.generations

-- So they are after the walk through the capture that has these parts: their calls are those of the records that count.
pub record AreTablesOf (parts : List (List ℕ)) (tables : Tables) : Type 0 where
  pub paired : ArePaired tables
  pub calls : AreCallsOf (flat_map marked_in (counted_frames parts)) tables.calls.all.items

-- the walk's lists, from which the other tables are written, stay
pub record KeepsLists (old new : Tables) : Type 0 where
  pub spans : new.spans ≡ old.spans
  pub generations : new.traffic.handles.generations ≡ old.traffic.handles.generations
  pub messages : new.traffic.messages ≡ old.traffic.messages
  pub buffers : new.traffic.buffers ≡ old.traffic.buffers
  pub calls : new.calls ≡ old.calls
