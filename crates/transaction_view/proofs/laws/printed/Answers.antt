use Rattle.std.proofs.Common.{None}
use Rattle.capture_frame.specs.Envelope.{attachments_place, commands_place}
use Rattle.capture_frame.proofs.ReadOnLaws.{units_printed}
use Rattle.capture_frame.proofs.TestLaws.{found_there}
use Rattle.transaction_view.specs.Attachments.{entry_at, entry_bytes, entry_parser}
use Rattle.transaction_view.proofs.EntryLaws.{entry_spelled, widths}
use Rattle.transaction_view.proofs.laws.printed.Goals as goal

pub returns : goal.returns
returns c frame =
    units_printed (entry_parser frame) (widths frame) (entry_bytes (commands_place frame.place))
    (λ before place bytes e are is. entry_spelled frame before bytes e are (found_there place (entry_at frame before bytes) e is))
    None (attachments_place frame.unit frame.place) frame.unit.attachments
