use Rattle.std.proofs.Common.{leb, arith, rules}
use Rattle.std.proofs.lemmas.List.Sorted.{IsPartitionPoint-from_clause}
use Rattle.capture_frame.proofs.FrameListLaws.{last_begun, only_part}
use Rattle.capture_frame.proofs.frame_list.part_with.Goals as goal

pub overflow_sub-result : goal.overflow_sub-result
overflow_sub-result c =
    let count = c.partition_point-count in
    let last = last_begun c.args.parts.now c.args.place c.requires count.result count.ensures.bound
    (λ first. IsPartitionPoint-from_clause (λ part. leb part.start c.args.place) c.args.parts.now count.result count.ensures.partitioned first
    (λ a r q k. search rules)) in
    omega (arith, last.0)

pub returns : goal.returns
returns c =
    let count = c.partition_point-count in
    (last_begun c.args.parts.now c.args.place c.requires count.result count.ensures.bound
    (λ first. IsPartitionPoint-from_clause (λ part. leb part.start c.args.place) c.args.parts.now count.result count.ensures.partitioned first
    (λ a r q k. search rules))).1 _

pub returns-then-parts-eq1 : goal.returns-then-parts-eq1
returns-then-parts-eq1 c = only_part c.args.parts.now c.args.place c.requires c.if-parts-eq1.true _
