use Rattle.std.proofs.Common.{◌≤◌, vec_len}
use Rattle.std.specs.Io.KnownBytes.{Consumes}
use Rattle.streams.proofs.reading.read_through.Given as goal

-- the reader has lost the bytes of the capture so far: at least one a read, and no more than the limit
abbrev pub invariant-loop : goal.invariant-loop
invariant-loop g l =
    Consumes (g.R.Read.remaining l.initial.reader) (g.R.Read.remaining l.reader) l.capture.items ×
    (vec_len l.capture ≤ l.limit) ×
    (l.counter ≤ vec_len l.capture)
