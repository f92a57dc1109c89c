use Rattle.std.proofs.Common.{◌≡◌, Some, slice_get, set, map, refl, ap, sym, ◌∙◌}
use Rattle.std.proofs.lemmas.List.{map-set}
use Rattle.std.proofs.lemmas.Option.{get_or_from_slice_get, slice_get-map}
use Rattle.std.specs.Option.{option_map}
use Rattle.listing_tables.specs.Buffers.{earlier_of, row_of_buffer}
use Rattle.listing_tables.specs.declared.buffers.Buffer.{Buffer}
use Rattle.listing_tables.proofs.BufferLaws.{set_same}
use Rattle.listing_tables.proofs.buffers.Buffers.free_one.Goals as goal

pub returns : goal.returns
returns c =
    let list = c.args.self.now.list.all.items in
    let index = c.args.index in
    let found = c.index-buffer.result.now in
    let same : (buffer : Buffer) → slice_get list index ≡ Some buffer → found ≡ buffer
    = λ buffer is. c.index-buffer.ensures ∙ get_or_from_slice_get list index buffer found is in
    record {
      latest = refl;
      rows = λ buffer is.
          map-set row_of_buffer list index _
          ∙ ap (λ (b : Buffer). set (map row_of_buffer list) index (record (row_of_buffer b) { freed = Some c.args.place })) (same buffer is);
      earlier = λ buffer is.
          map-set earlier_of list index _
          ∙ set_same (map earlier_of list) index found.earlier
          (slice_get-map earlier_of list index ∙ ap (option_map earlier_of) (is ∙ ap Some (sym (same buffer is))));
      next = λ buffer is. ap earlier_of (same buffer is);
      freed = c.in_ok-push.ensures.last;
    }
