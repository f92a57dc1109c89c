use Rattle.std.proofs.Common.{◌-◌, sym, subst}
use Rattle.streams.specs.Stretches.{IsStretch}
use Rattle.streams.proofs.StretchLaws.{after_header}
use Rattle.streams.proofs.stretches.SharedFile.part_of.Goals as goal

pub returns-clause-read : goal.returns-clause-read
returns-clause-read g c =
    let known = g.F.SharedFiles.known c.args.self.now.files.now c.args.self.now.name.now in
    let stretch = c.args.stretch in
    let part = c.in_ok-part in
    subst (IsStretch known stretch.start (stretch.end - stretch.start)) (sym c.in_ok-with_header.ensures.after)
    (after_header known stretch.start (stretch.end - stretch.start) part.part.items stretch.after_header part.ensures.bytes)
