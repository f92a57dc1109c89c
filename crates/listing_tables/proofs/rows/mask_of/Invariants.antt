use Rattle.std.proofs.Common.{◌≡◌, drop}
use Rattle.listing_tables.specs.Columns.{mask_of}
use Rattle.listing_tables.proofs.rows.mask_of.Given as goal

abbrev pub invariant-loop-number : goal.invariant-loop-number
invariant-loop-number l = l.mask ≡ mask_of (drop l.number l.columns)
