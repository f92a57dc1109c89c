use Rattle.std.proofs.Common.{◌≡◌, map, take, subst, rules}
use Rattle.std.specs.Io.KnownBytes.{Appends}
use Rattle.listing_tables.specs.BeforeFault.{good_capture}
use Rattle.listing_tables.specs.Walk.{counted_frames}
use Rattle.listing_tables.proofs.before_fault.write_before_fault.Goals as goal

pub returns-in-Ok : goal.returns-in-Ok
returns-in-Ok g c =
    let at = g.W.Write.contents in
    let parts = map (λ part. part.now) c.args.parts.now in
    let counted : take c.in_ok-frames.ending.count c.as_slice.result ≡ counted_frames parts = search rules in
    subst (λ frames. Appends (at c.args.file) (at c.in-Ok.written) (good_capture frames)) counted c.in-Ok.ensures
