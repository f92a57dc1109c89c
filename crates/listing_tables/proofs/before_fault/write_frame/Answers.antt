use Rattle.std.proofs.KnownBytes.{Appends-trans}
use Rattle.std.proofs.lemmas.Result.{on_ok_weaker}
use Rattle.capture_frame.specs.Envelope.{frame_bytes}
use Rattle.listing_tables.proofs.before_fault.write_frame.Goals as goal

pub returns : goal.returns
unfolding frame_bytes
returns g c =
    on_ok_weaker c.write_all-2.result
    (λ last.
    Appends-trans _ _ _ _ _ c.in_ok-write_header.ensures (Appends-trans _ _ _ _ _ c.in_ok-write_all.ensures.bytes last))
    c.write_all-2.ensures.bytes
