use Rattle.capture_frame.specs.Envelope.{commands_place}
use Rattle.capture_frame.proofs.ReadOnLaws.{units_printed}
use Rattle.capture_frame.proofs.TestLaws.{found_there}
use Rattle.record_view.specs.Records.{protocol_of, record_at, record_bytes, record_parser}
use Rattle.record_view.proofs.RecordLaws.{record_spelled, widths}
use Rattle.record_view.proofs.laws.printed.Goals as goal

pub returns : goal.returns
returns c frame =
    let direction = frame.unit.direction in
    units_printed (record_parser direction) (widths direction) record_bytes
    (λ _ place bytes r are is. record_spelled (protocol_of direction) bytes r are (found_there place (record_at (protocol_of direction) bytes) r is))
    tt (commands_place frame.place) frame.unit.commands
