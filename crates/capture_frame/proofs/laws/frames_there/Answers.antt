use Rattle.std.proofs.Common.{◌-◌, drop, get_or}
use Rattle.capture_frame.specs.Frames.{frame_parser}
use Rattle.capture_frame.specs.ReadOn.{parsed_by}
use Rattle.capture_frame.proofs.FrameLaws.{frame_read, frame_widths}
use Rattle.capture_frame.proofs.ReadOnLaws.{units_there}
use Rattle.capture_frame.proofs.laws.frames_there.Goals as goal

pub returns : goal.returns
returns c = λ before place bytes i d inside.
    let there = get_or (parsed_by frame_parser before place bytes).units i d in
    let h = units_there frame_parser frame_widths before place bytes i d inside in
    (h.from, h.within, (frame_read h.state there.place (drop (there.place - place) bytes) there.unit h.is).0)
