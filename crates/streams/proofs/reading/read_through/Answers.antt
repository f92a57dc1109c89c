use Rattle.std.proofs.lemmas.Grind.{common_steps}
use Rattle.std.proofs.Common.{◌++◌, take, arith}
use Rattle.std.proofs.KnownBytes.{Consumes-trans}
use Rattle.streams.proofs.reading.read_through.Goals as goal

-- the last read took its bytes too
pub returns-in_err-append_within-clause-left : goal.returns-in_err-append_within-clause-left
returns-in_err-append_within-clause-left g c =
    (c.loop.capture.items ++ take c.in_ok-count.count c.read.new.buf, grind (arith, Consumes-trans))

pub loop-preserved : goal.loop-preserved
loop-preserved c = grind (arith, common_steps)
