use Rattle.std.proofs.Common.{take}
use Rattle.std.specs.Io.KnownBytes.{Appends}
use Rattle.listing_tables.specs.BeforeFault.{good_capture}
use Rattle.listing_tables.proofs.before_fault.write_frames.Given as goal

abbrev pub invariant-loop-number : goal.invariant-loop-number
invariant-loop-number g l =
    Appends (g.W.Write.contents l.fn.out) (g.W.Write.contents l.out) (good_capture (take l.number l.frames))
