use Rattle.std.proofs.Common.{◌-◌, ◌≤◌, length, take}
use Rattle.std.specs.Io.KnownBytes.{Appends}
use Rattle.streams.proofs.writing.write_text.Given as goal

-- the writer has grown by the text as far as it is written
abbrev pub invariant-loop-written : goal.invariant-loop-written
invariant-loop-written g l =
    Appends (g.W.Write.contents l.initial.writer) (g.W.Write.contents l.writer) (take l.written l.text) ×
    (l.written ≤ length l.text)

abbrev pub decreases-loop-written : goal.decreases-loop-written
decreases-loop-written g l = length l.text - l.written
