use Rattle.std.proofs.Common.{◌≡◌, take}
use Rattle.capture_frame.specs.Cut.{shown_by}
use Rattle.capture_frame.proofs.frame_list.FrameSlice.to_vec.Given as goal

abbrev pub invariant-loop-number : goal.invariant-loop-number
invariant-loop-number l = shown_by l.frames.items ≡ take l.number l.fn.self
