use Rattle.std.proofs.Common.{◌<◌, ◌^◌, arith}
use Rattle.listing_tables.specs.Columns.{mask_of}
use Rattle.listing_tables.proofs.RowLaws.{mask_fits}
use Rattle.listing_tables.proofs.rows.sorted_mask.Goals as goal

pub overflow_add-result : goal.overflow_add-result
overflow_add-result c =
    let mask : mask_of c.args.columns.now < 2 ^ 56 = mask_fits 56 c.args.columns.now c.requires in
    let found = c.mask_of.ensures in
    let byte = c.number.ensures.byte in
    omega (arith, mask, found, byte)
