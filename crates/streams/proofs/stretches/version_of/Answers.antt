use Rattle.std.proofs.Common.{sym, arith}
use Rattle.capture_frame.proofs.HeaderLaws.{header_printed}
use Rattle.streams.proofs.stretches.version_of.Goals as goal

pub returns-in-Ok-clause-printed : goal.returns-in-Ok-clause-printed
returns-in-Ok-clause-printed c =
    header_printed c.args.part.now c.in-Ok.version (λ i. omega (arith, c.type_inv.part i)) (sym c.in-Ok.ensures)
