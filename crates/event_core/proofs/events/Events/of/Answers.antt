use Rattle.capture_frame.specs.Envelope.{placed_frame}
use Rattle.event_core.proofs.SideBySide.{side_by_side}
use Rattle.event_core.proofs.events.Events.of.Goals as goal

pub returns : goal.returns
returns c = rw (c.of.ensures.records, c.of.ensures.entries) (side_by_side (placed_frame c.args.frame))
