use Rattle.capture_frame.proofs.FrameListLaws.{read_at}
use Rattle.capture_frame.proofs.frame_list.FrameSlice.get.Goals as goal

pub returns : goal.returns
returns c =
    read_at c.self.inside.parts.now c.self.inside.places.now c.args.self.now c.args.number c.bytes_from-bytes.result.now c.frame_of.result
    c.self.view_is c.requires (rw c.from-place.ensures at c.bytes_from-bytes.ensures) (rw c.from-place.ensures at c.frame_of.ensures)
