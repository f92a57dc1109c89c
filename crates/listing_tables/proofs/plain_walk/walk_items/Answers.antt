use Rattle.std.proofs.Common.{◌≡◌, ◌+◌, List, [], ◌∷◌, ◌++◌, length, length-append, map, sym, ap, subst, ◌∙◌}
use Rattle.std.proofs.lemmas.Iterator.{YieldsList}
use Rattle.std.proofs.lemmas.Iterator.Consumers.{YieldsList-end, YieldsList-from_first}
use Rattle.std.proofs.lemmas.List.{length-map, map-append}
use Rattle.std.specs.Iterator.{YieldsFirstBy}
use Rattle.capture_frame.specs.Envelope.{placed_frame}
use Rattle.capture_frame.specs.Units.{Placed}
use Rattle.record_view.specs.Records.{RecordText, records_of}
use Rattle.listing_fields.specs.Content.{record_of_item, records_left}
use Rattle.listing_tables.specs.Columns.{AddsRows}
use Rattle.listing_tables.specs.Walk.{BeginsWith, record_begin}
use Rattle.listing_tables.proofs.WalkLaws.{more_rows}
use Rattle.listing_tables.proofs.plain_walk.walk_items.Goals as goal

pub loop-item-preserved : goal.loop-item-preserved
loop-item-preserved g c =
    let frame = placed_frame c.args.frame in
    let there = record_of_item c.in-Some.item in
    let so_far = map record_of_item c.loop-item.yielded in
    let more : map record_of_item (c.loop-item.yielded ++ c.in-Some.item ∷ []) ≡ so_far ++ there ∷ []
    = map-append record_of_item c.loop-item.yielded (c.in-Some.item ∷ []) in
    let before = c.loop-item.invariant in
    let old = c.args.streams.now.records in
    let new = c.write_record.new.rows in
    record {
      count = c.in_ok-count.ensures ∙ ap (λ n. n + 1) before.count ∙ sym (length-append c.loop-item.yielded (c.in-Some.item ∷ []));
      frames = before.frames;
      records = subst (AddsRows BeginsWith old new)
          (sym (ap (map (record_begin frame)) more ∙ map-append (record_begin frame) so_far (there ∷ [])))
          (more_rows BeginsWith old c.loop-item.streams.records new (map (record_begin frame) so_far) (record_begin frame there ∷ [])
          before.records c.in_ok-write_record.ensures);
    }

pub returns-clause-count : goal.returns-clause-count
returns-clause-count g c =
    let frame = placed_frame c.args.frame in
    let start = c.into_iter-item-iterator.result in
    let left : records_left start ≡ (records_of frame).units = ap records_left c.into_iter-item-iterator.ensures.into_iter_gives ∙ c.requires in
    let all : YieldsList (YieldsFirstBy record_of_item records_left) record_of_item start (records_of frame).units
    = YieldsList-from_first record_of_item records_left (records_of frame).units left in
    let whole : map record_of_item c.loop-item.yielded ≡ (records_of frame).units
    = (YieldsList-end all c.loop-item.yielded c.loop-item.item-iterator c.loop-item.yielded_by c.next.result c.next.new.self c.in-None.is c.next.ensures.steps).0 in
    c.loop-item.invariant.count ∙ sym (length-map c.loop-item.yielded record_of_item) ∙ ap length whole

pub returns-clause-records : goal.returns-clause-records
returns-clause-records g c =
    let frame = placed_frame c.args.frame in
    let start = c.into_iter-item-iterator.result in
    let left : records_left start ≡ (records_of frame).units = ap records_left c.into_iter-item-iterator.ensures.into_iter_gives ∙ c.requires in
    let all : YieldsList (YieldsFirstBy record_of_item records_left) record_of_item start (records_of frame).units
    = YieldsList-from_first record_of_item records_left (records_of frame).units left in
    let whole : map record_of_item c.loop-item.yielded ≡ (records_of frame).units
    = (YieldsList-end all c.loop-item.yielded c.loop-item.item-iterator c.loop-item.yielded_by c.next.result c.next.new.self c.in-None.is c.next.ensures.steps).0 in
    subst (λ (l : List (Placed RecordText)). AddsRows BeginsWith c.args.streams.now.records c.loop-item.streams.records (map (record_begin frame) l))
    whole c.loop-item.invariant.records
