use Rattle.std.proofs.Common.{rules, ◌<◌, arith, subst, length}
use Rattle.claim_board.specs.Work.{MayShare}
use Rattle.claim_board.proofs.Seats.{splits_allowed, joins_allowed}
use Rattle.claim_board.proofs.Halving.{both_joined, halves_may_share, may_join, same_again}
use Rattle.claim_board.proofs.share.+halves.Goals as goal

pub share-work_alone-requires : goal.share-work_alone-requires
share-work_alone-requires g t c =
    let jobs = g.W.Work.listed c.args.work.now in
    subst (λ n. MayShare c.args.table.now.table_id jobs n c.args.seat.now) c.if-workers-eq1.true c.requires

pub share-split_seat-other-requires : goal.share-split_seat-other-requires
share-split_seat-other-requires g t c =
    let m = c.requires in
    let n = m.crew in
    let k = m.at_least_one in
    (m.place.1, (let b = m.place.0.0 in omega arith), splits_allowed _ _ _ _ (omega arith) m.fresh.claimed)

pub share-share_halves-front-requires : goal.share-share_halves-front-requires
share-share_halves-front-requires g t c κs within =
    let s = c.split_seat-other in
    let halves = halves_may_share _ _ _ _ s.new.seat s.result c.requires c.if-workers-eq1.false s.ensures in
    search rules

pub share-join_seat-requires : goal.share-join_seat-requires
share-join_seat-requires g t c =
    let m = c.requires in
    let s = c.split_seat-other in
    let d = c.share_halves-front in
    let more : 1 < length c.args.seat.now.me.0.crew = let n = m.crew in let k = m.at_least_one in let e = c.if-workers-eq1.false in omega arith in
    let may = may_join _ c.args.seat.now s.new.seat s.result d.new.seat d.new.other m.place more s.ensures d.ensures.low_same d.ensures.high_same in
    (may.0, may.1, may.2, (let b = m.place.0.0 in omega arith), joins_allowed _ _ _ _ _ _ may.3)

pub share-returns-clause-same : goal.share-returns-clause-same
share-returns-clause-same g t c =
    let s = c.split_seat-other in
    let d = c.share_halves-front in
    let j = c.join_seat in
    same_again c.args.seat.now s.new.seat s.result d.new.seat d.new.other j.new.seat s.ensures d.ensures.low_same d.ensures.high_same j.ensures

pub share-returns-clause-done : goal.share-returns-clause-done
share-returns-clause-done g t c =
    let gives = g.W.Work.gives c.args.work.now in
    let d = c.share_halves-front in
    let j = c.join_seat in
    both_joined gives d.new.seat d.new.other j.new.seat _ _ _ j.ensures d.ensures.low_done d.ensures.high_done c.one_list.ensures
