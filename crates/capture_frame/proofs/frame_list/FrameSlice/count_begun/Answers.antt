use Rattle.std.proofs.Common.{List, leb, subst, sym, rules}
use Rattle.std.specs.Prelude.{AllPairs}
use Rattle.std.proofs.lemmas.List.Sorted.{IsPartitionPoint-from_clause}
use Rattle.capture_frame.specs.Envelope.{PlacedFrame}
use Rattle.capture_frame.specs.FrameList.{bodies}
use Rattle.capture_frame.specs.Lookup.{AreApart, IsSplitAt}
use Rattle.capture_frame.proofs.FrameListLaws.{split_by_starts, starts_first}
use Rattle.capture_frame.proofs.frame_list.FrameSlice.count_begun.Goals as goal

pub returns : goal.returns
returns c =
    let body = bodies c.self.inside.parts.now in
    let places = c.self.inside.places.now in
    let n = c.partition_point.result in
    let apart = subst (AllPairs AreApart) (sym c.self.view_is) c.requires in
    subst (λ (l : List PlacedFrame). IsSplitAt l c.args.place n) c.self.view_is
    (split_by_starts body places c.args.place n c.partition_point.ensures.bound
    (IsPartitionPoint-from_clause (λ start. leb start c.args.place) places n c.partition_point.ensures.partitioned
    (starts_first body places c.args.place apart) (λ a r q k. search rules)))
