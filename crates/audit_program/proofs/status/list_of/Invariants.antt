use Rattle.std.proofs.Common.{◌≡◌, ◌++◌}
use Rattle.std.specs.Vec.Iter.{into_iter_items}
use Rattle.audit_program.proofs.status.list_of.Given as goal

-- the list has the words that were taken, and these and the words that are left are all words
abbrev pub invariant-loop-word : goal.invariant-loop-word
invariant-loop-word l =
    (l.list.items ≡ l.yielded) × (l.yielded ++ into_iter_items l.word-iterator ≡ into_iter_items l.fn.words)
