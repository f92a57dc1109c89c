use Rattle.std.proofs.Common.{◌-◌, ℕ, List, drop, sym, ap, subst, ◌∙◌}
use Rattle.capture_frame.specs.declared.frame_list.PartBytes.{PartBytes}
use Rattle.capture_frame.specs.FrameList.{AreBytesFrom}
use Rattle.capture_frame.proofs.FrameListLaws.{bytes_from_place}
use Rattle.capture_frame.proofs.frame_list.bytes_from.Goals as goal

pub returns : goal.returns
returns c =
    let has = c.part_with-start.ensures.0 in
    let rest = c.split_at.ensures.back ∙ ap (λ (p : PartBytes). drop (c.args.place - p.start) p.bytes.now) (sym c.part_with-start.ensures.1) in
    subst (λ (l : List ℕ). AreBytesFrom c.args.parts.now c.args.place l) (sym rest) (bytes_from_place c.args.parts.now _ c.args.place c.requires has)
