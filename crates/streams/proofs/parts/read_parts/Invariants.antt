use Rattle.std.proofs.Common.{◌≡◌, ◌+◌, ◌++◌, map}
use Rattle.std.specs.List.{AllZip}
use Rattle.streams.specs.Parts.{bytes_of, IsAllOf}
use Rattle.streams.proofs.parts.read_parts.Given as goal

-- there is a part for each reader so far, and what is left is the limit less their bytes
abbrev pub invariant-loop-reader : goal.invariant-loop-reader
invariant-loop-reader g l =
    (goal.iterator-loop-reader g).can_next l.reader-iterator ×
    (goal.iterator-loop-reader g).is_finite l.reader-iterator ×
    (l.yielded ++ l.reader-iterator.rest.items ≡ l.fn.readers.items) ×
    AllZip IsAllOf (map g.R.Read.remaining l.yielded) (map (λ part. part.items) l.parts.items) ×
    (l.left + bytes_of (map (λ part. part.items) l.parts.items) ≡ l.limit)
