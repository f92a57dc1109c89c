use Rattle.std.proofs.Common.{◌≡◌, ◌++◌, map}
use Rattle.std.specs.Map.Iter.{deref}
use Rattle.listing_tables.specs.Waiting.{look_at}
use Rattle.listing_tables.proofs.waiting.look_in.Given as goal

abbrev pub invariant-loop-send : goal.invariant-loop-send
invariant-loop-send l = l.looked.items ≡ l.initial.looked.items ++ map (look_at l.guessed) (map deref l.yielded)
