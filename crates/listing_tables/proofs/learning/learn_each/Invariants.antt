use Rattle.std.proofs.Common.{take}
use Rattle.listing_tables.specs.Meanings.{LearnsEach}
use Rattle.listing_tables.proofs.learning.learn_each.Given as goal

abbrev pub invariant-loop-one : goal.invariant-loop-one
invariant-loop-one l = LearnsEach l.fn.meanings l.meanings (take l.one-index l.objects) l.before l.others l.after
