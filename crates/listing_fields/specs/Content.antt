-- The records of a frame, each with its attachment.
use Rattle.std.specs.Prelude.{List}
use Rattle.capture_frame.specs.Units.{Placed}
use Rattle.record_view.specs.Records.{RecordText}
use Rattle.record_view.specs.State.{placed_record}
use Rattle.listing_fields.specs.declared.content.Content.{Content}
use Rattle.listing_fields.specs.declared.content.Item.{Item}

-- the record of an item, at its place
abbrev pub record_of_item : Item → Placed RecordText
record_of_item item = placed_record item.record

-- the records that a reader has not given yet
abbrev pub records_left : Content → List (Placed RecordText)
records_left content = content.read.records
