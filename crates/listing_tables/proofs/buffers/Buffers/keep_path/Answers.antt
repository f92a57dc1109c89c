use Rattle.std.proofs.Common.{◌≡◌, Some, slice_get, ap, ◌∙◌, rules}
use Rattle.std.proofs.lemmas.List.{map-set}
use Rattle.std.proofs.lemmas.Option.{slice_get-map, slice_get_read}
use Rattle.std.specs.Option.{option_map}
use Rattle.listing_tables.specs.Buffers.{row_of_buffer}
use Rattle.listing_tables.proofs.BufferLaws.{set_same}
use Rattle.listing_tables.proofs.buffers.Buffers.keep_path.Goals as goal

pub returns : goal.returns
returns c =
    let list = c.args.self.now.list.all.items in
    let buffer = c.index-buffer.result.now in
    let is : slice_get list c.args.index ≡ Some buffer
    = slice_get_read list c.len.result c.args.index buffer (search rules) (search rules) c.index-buffer.ensures in
    map-set row_of_buffer list c.args.index _
    ∙ set_same _ c.args.index (row_of_buffer buffer) (slice_get-map row_of_buffer list c.args.index ∙ ap (option_map row_of_buffer) is)
