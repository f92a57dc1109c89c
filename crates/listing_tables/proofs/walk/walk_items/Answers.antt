use Rattle.std.proofs.Common.{◌≡◌, ◌+◌, List, [], ◌∷◌, ◌++◌, length, length-append, map, sym, ap, subst, ◌∙◌}
use Rattle.std.proofs.lemmas.Iterator.{YieldsList}
use Rattle.std.proofs.lemmas.Iterator.Consumers.{YieldsList-end, YieldsList-from_first}
use Rattle.std.proofs.lemmas.List.{flat_map_more, length-map, map-append}
use Rattle.std.specs.Iterator.{YieldsFirstBy}
use Rattle.std.specs.List.{flat_map}
use Rattle.capture_frame.specs.Envelope.{placed_frame}
use Rattle.capture_frame.specs.Units.{Placed}
use Rattle.record_view.specs.Records.{RecordText, records_of}
use Rattle.listing_fields.specs.Content.{record_of_item, records_left}
use Rattle.listing_tables.specs.Columns.{AddsRows}
use Rattle.listing_tables.specs.Steps.{KeepsAll, marked_of}
use Rattle.listing_tables.specs.Walk.{BeginsWith, record_begin}
use Rattle.listing_tables.proofs.WalkLaws.{more_rows}
use Rattle.listing_tables.proofs.walk.walk_items.Goals as goal

pub walk_item-requires : goal.walk_item-requires
walk_item-requires g c = (
  c.requires.kept.0 ++ flat_map (marked_of (placed_frame c.args.frame)) (map record_of_item c.loop-item.yielded),
  c.loop-item.invariant.marked c.requires.kept.0 c.requires.kept.1,
)

pub loop-item-preserved : goal.loop-item-preserved
loop-item-preserved g c =
    let frame = placed_frame c.args.frame in
    let there = record_of_item c.in-Some.item in
    let so_far = map record_of_item c.loop-item.yielded in
    let more : map record_of_item (c.loop-item.yielded ++ c.in-Some.item ∷ []) ≡ so_far ++ there ∷ []
    = map-append record_of_item c.loop-item.yielded (c.in-Some.item ∷ []) in
    let before = c.loop-item.invariant in
    let now = c.in_ok-walk_item.ensures in
    let old = c.args.streams.now.records in
    let new = c.walk_item.new.streams.records in
    record {
      count = c.in_ok-count.ensures ∙ ap (λ n. n + 1) before.count ∙ sym (length-append c.loop-item.yielded (c.in-Some.item ∷ []));
      frames = now.frames ∙ before.frames;
      records = subst (AddsRows BeginsWith old new)
          (sym (ap (map (record_begin frame)) more ∙ map-append (record_begin frame) so_far (there ∷ [])))
          (more_rows BeginsWith old c.loop-item.streams.records new (map (record_begin frame) so_far) (record_begin frame there ∷ [])
          before.records now.records);
      calls = now.calls ∙ before.calls;
      marked = λ marked kept.
          subst (KeepsAll c.walk_item.new.tables.steps.entries.entries)
          (flat_map_more (marked_of frame) marked so_far there ∙ ap (λ l. marked ++ flat_map (marked_of frame) l) (sym more))
          (now.marked (marked ++ flat_map (marked_of frame) so_far) (before.marked marked kept));
    }

pub returns-clause-count : goal.returns-clause-count
returns-clause-count g c =
    let frame = placed_frame c.args.frame in
    let start = c.into_iter-item-iterator.result in
    let left : records_left start ≡ (records_of frame).units = ap records_left c.into_iter-item-iterator.ensures.into_iter_gives ∙ c.requires.content in
    let all : YieldsList (YieldsFirstBy record_of_item records_left) record_of_item start (records_of frame).units
    = YieldsList-from_first record_of_item records_left (records_of frame).units left in
    let whole : map record_of_item c.loop-item.yielded ≡ (records_of frame).units
    = (YieldsList-end all c.loop-item.yielded c.loop-item.item-iterator c.loop-item.yielded_by c.next.result c.next.new.self c.in-None.is c.next.ensures.steps).0 in
    c.loop-item.invariant.count ∙ sym (length-map c.loop-item.yielded record_of_item) ∙ ap length whole

pub returns-clause-marked : goal.returns-clause-marked
returns-clause-marked g c =
    let frame = placed_frame c.args.frame in
    let start = c.into_iter-item-iterator.result in
    let left : records_left start ≡ (records_of frame).units = ap records_left c.into_iter-item-iterator.ensures.into_iter_gives ∙ c.requires.content in
    let all : YieldsList (YieldsFirstBy record_of_item records_left) record_of_item start (records_of frame).units
    = YieldsList-from_first record_of_item records_left (records_of frame).units left in
    let whole : map record_of_item c.loop-item.yielded ≡ (records_of frame).units
    = (YieldsList-end all c.loop-item.yielded c.loop-item.item-iterator c.loop-item.yielded_by c.next.result c.next.new.self c.in-None.is c.next.ensures.steps).0 in
    λ marked kept.
    subst (λ (l : List (Placed RecordText)). KeepsAll c.loop-item.tables.steps.entries.entries (marked ++ flat_map (marked_of frame) l)) whole
    (c.loop-item.invariant.marked marked kept)

pub returns-clause-records : goal.returns-clause-records
returns-clause-records g c =
    let frame = placed_frame c.args.frame in
    let start = c.into_iter-item-iterator.result in
    let left : records_left start ≡ (records_of frame).units = ap records_left c.into_iter-item-iterator.ensures.into_iter_gives ∙ c.requires.content in
    let all : YieldsList (YieldsFirstBy record_of_item records_left) record_of_item start (records_of frame).units
    = YieldsList-from_first record_of_item records_left (records_of frame).units left in
    let whole : map record_of_item c.loop-item.yielded ≡ (records_of frame).units
    = (YieldsList-end all c.loop-item.yielded c.loop-item.item-iterator c.loop-item.yielded_by c.next.result c.next.new.self c.in-None.is c.next.ensures.steps).0 in
    subst (λ (l : List (Placed RecordText)). AddsRows BeginsWith c.args.streams.now.records c.loop-item.streams.records (map (record_begin frame) l))
    whole c.loop-item.invariant.records
