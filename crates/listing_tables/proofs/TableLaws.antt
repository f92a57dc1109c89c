-- Tables that are written after the walk.
use Rattle.std.proofs.Common.{ℕ, List, Option, ◌∙◌, sym, subst}
use Rattle.std.proofs.KnownBytes.{Keeps-trans}
use Rattle.std.specs.Io.KnownBytes.{Keeps}
use Rattle.std.specs.List.{flat_map}
use Rattle.listing_fields.specs.declared.table.Table.{Table}
use Rattle.listing_fields.specs.declared.table.Table.TheVariants.{Capture, Process, Thread, Frame, Record, Interface, Service, Object, Call, Generation, Send, Delivery, Slice, Level}
use Rattle.listing_tables.specs.Columns.{IsThisRow}
use Rattle.listing_tables.specs.Steps.{AreCallsOf, marked_in}
use Rattle.listing_tables.specs.Tables.{ArePaired, AreTablesOf, KeepsLists, WritesTable}
use Rattle.listing_tables.specs.Turns.{PairsTraffic}
use Rattle.listing_tables.specs.Walk.{counted_frames}
use Rattle.listing_tables.specs.declared.calls.Call.{Call as ACall}
use Rattle.listing_tables.specs.declared.numbered.Numbered.{Numbered}
use Rattle.listing_tables.specs.declared.tables.Tables.{Tables}
use Rattle.listing_tables.proofs.WalkLaws.{kept_rows}

-- what is written between two writers that have the same is written from the first to the last
pub kept_table : (tables : Tables) (table : Table) (a b c d : Option (List ℕ)) → Keeps a b → WritesTable tables table b c → Keeps c d
    → WritesTable tables table a d
kept_table tables Capture a b c d before written after = tt
kept_table tables Process a b c d before written after = kept_rows IsThisRow a b c d _ before written after
kept_table tables Thread a b c d before written after = kept_rows IsThisRow a b c d _ before written after
kept_table tables Frame a b c d before written after = Keeps-trans a c d (Keeps-trans a b c before written) after
kept_table tables Record a b c d before written after = Keeps-trans a c d (Keeps-trans a b c before written) after
kept_table tables Interface a b c d before written after = tt
kept_table tables Service a b c d before written after = tt
kept_table tables Object a b c d before written after = Keeps-trans a c d (Keeps-trans a b c before written) after
kept_table tables Call a b c d before written after = Keeps-trans a c d (Keeps-trans a b c before written) after
kept_table tables Generation a b c d before written after = kept_rows IsThisRow a b c d _ before written after
kept_table tables Send a b c d before written after = kept_rows IsThisRow a b c d _ before written after
kept_table tables Delivery a b c d before written after = kept_rows IsThisRow a b c d _ before written after
kept_table tables Slice a b c d before written after = tt
kept_table tables Level a b c d before written after = tt

paired_still : (old new : Tables) → KeepsLists old new → ArePaired old → ArePaired new
paired_still old new kept paired = record {
  before = paired.before;
  after = paired.after;
  pairs = subst (λ (calls : Numbered ACall). PairsTraffic paired.before calls paired.after) (sym kept.calls) paired.pairs;
  messages = kept.messages ∙ paired.messages;
  buffers = kept.buffers ∙ paired.buffers;
  generations = kept.generations ∙ paired.generations;
}

-- what the walk has found and pairing has made stays while the lists stay
pub still_of : (parts : List (List ℕ)) (old new : Tables) → KeepsLists old new → AreTablesOf parts old → AreTablesOf parts new
still_of parts old new kept tables = record {
  paired = paired_still old new kept tables.paired;
  calls = subst (λ (calls : Numbered ACall). AreCallsOf (flat_map marked_in (counted_frames parts)) calls.all.items) (sym kept.calls) tables.calls;
}
