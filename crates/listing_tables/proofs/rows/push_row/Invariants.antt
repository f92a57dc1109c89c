use Rattle.std.proofs.Common.{◌≡◌, ◌+◌, ◌*◌, ◌≤◌, ◌++◌, take}
use Rattle.std.specs.Int.{w64, to_le_bytes}
use Rattle.std.specs.List.{flat_map}
use Rattle.arrayvec.specs.ArrayVec.{array_vec_len}
use Rattle.listing_tables.specs.Columns.{column_bytes}
use Rattle.listing_tables.proofs.rows.push_row.Given as goal

abbrev pub invariant-loop-column : goal.invariant-loop-column
invariant-loop-column l =
    (l.bytes.items ++ l.row.items
    ≡ l.fn.bytes.items ++ to_le_bytes w64 l.mask ++ flat_map column_bytes (take l.column-index l.columns))
    × (array_vec_len l.row ≤ 8 + 8 * l.column-index)
