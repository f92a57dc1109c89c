use Rattle.std.proofs.Common.{◌≡◌, ◌++◌, drop, flat_map}
use Rattle.audit_run.proofs.stretch_runs.joined.Given as goal

-- so far it is the first part, and what each of the next parts has after its file header
abbrev pub invariant-loop-part : goal.invariant-loop-part
invariant-loop-part l =
    goal.iterator-loop-part.can_next l.part-iterator
    × goal.iterator-loop-part.is_finite l.part-iterator
    × (l.yielded ++ l.part-iterator.rest.items ≡ l.initial.part-iterator.rest.items)
    × (l.capture.items ≡ l.initial.capture.items ++ flat_map (λ part. drop 16 part.items) l.yielded)
