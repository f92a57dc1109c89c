use Rattle.std.proofs.Common.{drop-drop}
use Rattle.std.proofs.lemmas.List.{take_rest}
use Rattle.capture_frame.proofs.frames.frame_of.Goals as goal

pub returns : goal.returns
returns c =
    simp (
      c.split_at-2.ensures.front,
      c.split_at.ensures.front,
      c.split_at.ensures.back,
      c.u64_at.ensures,
      c.u32_at-command_length.ensures,
      c.u32_at-attachment_length.ensures,
      c.u32_at.ensures,
      c.u32_at-2.ensures,
      c.u32_at-3.ensures,
      c.of.ensures,
      take_rest,
      drop-drop,
    )
