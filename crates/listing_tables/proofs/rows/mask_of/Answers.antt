use Rattle.std.proofs.Common.{drop, arith, length-drop}
use Rattle.listing_tables.proofs.RowLaws.{mask_fits}
use Rattle.listing_tables.proofs.rows.mask_of.Goals as goal

pub overflow_mul-mask : goal.overflow_mul-mask
overflow_mul-mask c =
    let others = drop c.loop-number.number c.args.columns.now in
    let few = length-drop c.loop-number.number c.args.columns.now in
    let half = mask_fits 63 others (omega (arith, few, c.requires)) in
    omega (arith, half, c.loop-number.invariant)

pub overflow_add-mask : goal.overflow_add-mask
overflow_add-mask c =
    let others = drop c.loop-number.number c.args.columns.now in
    let few = length-drop c.loop-number.number c.args.columns.now in
    let half = mask_fits 63 others (omega (arith, few, c.requires)) in
    omega (arith, half, c.loop-number.invariant)
