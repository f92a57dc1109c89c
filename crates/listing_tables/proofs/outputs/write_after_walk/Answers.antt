use Rattle.std.proofs.Common.{map}
use Rattle.listing_tables.proofs.TableLaws.{still_of}
use Rattle.listing_tables.proofs.outputs.write_after_walk.Goals as goal

pub returns : goal.returns
returns g c =
    still_of (map (λ part. part.now) c.args.parts.now) c.walk_nowhere.new.tables c.write_table.new.tables c.in_ok-write_table.ensures.kept
    c.in_ok-ending.ensures
