use Rattle.std.proofs.Common.{◌≡◌, List, [], ◌∷◌, ◌++◌, map, sym, ap, subst, ◌∙◌}
use Rattle.std.proofs.lemmas.Iterator.{YieldsList}
use Rattle.std.proofs.lemmas.Iterator.Consumers.{YieldsList-end, YieldsList-from_first}
use Rattle.std.proofs.lemmas.List.{map-append}
use Rattle.std.specs.Iterator.{YieldsFirstBy}
use Rattle.capture_frame.specs.Envelope.{placed_frame}
use Rattle.capture_frame.specs.Units.{Placed}
use Rattle.record_view.specs.Records.{RecordText, records_of}
use Rattle.listing_fields.specs.Content.{record_of_item, records_left}
use Rattle.listing_tables.specs.Stream.{AddsRecords}
use Rattle.listing_tables.specs.Walk.{record_begin}
use Rattle.listing_tables.proofs.StreamLaws.{more_records}
use Rattle.listing_tables.proofs.stream.list_items.Goals as goal

pub loop-item-preserved : goal.loop-item-preserved
loop-item-preserved g c =
    let frame = placed_frame c.args.frame in
    let there = record_of_item c.in-Some.item in
    let so_far = map record_of_item c.loop-item.yielded in
    let more : map record_of_item (c.loop-item.yielded ++ c.in-Some.item ∷ []) ≡ so_far ++ there ∷ []
    = map-append record_of_item c.loop-item.yielded (c.in-Some.item ∷ []) in
    let old = c.args.rows.now in
    let new = c.list_item.new.rows in
    subst (AddsRecords old new)
    (sym (ap (map (record_begin frame)) more ∙ map-append (record_begin frame) so_far (there ∷ [])))
    (more_records old c.loop-item.rows new (map (record_begin frame) so_far) (record_begin frame there ∷ []) c.loop-item.invariant
    c.in_ok-list_item.ensures)

pub returns : goal.returns
returns g c =
    let frame = placed_frame c.args.frame in
    let start = c.into_iter-item-iterator.result in
    let left : records_left start ≡ (records_of frame).units = ap records_left c.into_iter-item-iterator.ensures.into_iter_gives ∙ c.requires in
    let all : YieldsList (YieldsFirstBy record_of_item records_left) record_of_item start (records_of frame).units
    = YieldsList-from_first record_of_item records_left (records_of frame).units left in
    let whole : map record_of_item c.loop-item.yielded ≡ (records_of frame).units
    = (YieldsList-end all c.loop-item.yielded c.loop-item.item-iterator c.loop-item.yielded_by c.next.result c.next.new.self c.in-None.is c.next.ensures.steps).0 in
    subst (λ (l : List (Placed RecordText)). AddsRecords c.args.rows.now c.loop-item.rows (map (record_begin frame) l)) whole c.loop-item.invariant
