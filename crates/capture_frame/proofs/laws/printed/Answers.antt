use Rattle.capture_frame.specs.Envelope.{frame_bytes}
use Rattle.capture_frame.specs.Frames.{frame_parser}
use Rattle.capture_frame.proofs.FrameLaws.{frame_spelled, frame_widths}
use Rattle.capture_frame.proofs.HeaderLaws.{header_printed}
use Rattle.capture_frame.proofs.ReadOnLaws.{units_printed}
use Rattle.capture_frame.proofs.laws.printed.Goals as goal

pub returns : goal.returns
returns c = record { header = header_printed; frames = units_printed frame_parser frame_widths frame_bytes frame_spelled }
