use Rattle.std.proofs.Common.{arith}
use Rattle.std.proofs.lemmas.Grind.{common_steps}
use Rattle.std.proofs.lemmas.List.{map-append}
use Rattle.streams.proofs.StretchLaws.{parts_both}
use Rattle.streams.proofs.stretches.SharedFile.both_halves.Goals as goal

pub returns-clause-read : goal.returns-clause-read
returns-clause-read g c = grind (arith, common_steps, parts_both, map-append)
