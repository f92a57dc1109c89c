use Rattle.std.proofs.Common.{◌++◌, map, sym, subst, length-append, arith}
use Rattle.std.proofs.lemmas.List.{map-append}
use Rattle.std.proofs.lemmas.Result.{IfOk-at_ok}
use Rattle.capture_frame.specs.Cut.{shown_by}
use Rattle.capture_frame.specs.Envelope.{placed_frame}
use Rattle.audit_findings.specs.EachProcess.{order_item}
use Rattle.audit_findings.specs.Ledgers.{AreFewEvents}
use Rattle.audit_findings.specs.Summary.{SumsPiece}
use Rattle.audit_findings.proofs.FrameLaws.{few_shown}
use Rattle.audit_findings.proofs.GivenLaws.{both_given, order_both}
use Rattle.audit_findings.proofs.SequenceLaws.{frame_count}
use Rattle.audit_findings.proofs.piece_summary.PieceSummarySummary.join.Goals as goal

pub then-requires : goal.then-requires
then-requires c =
    let first = shown_by c.requires.0 in
    let second = shown_by c.requires.1 in
    let count = frame_count c.args.self.sequences first c.requires.2.sequences in
    let more = frame_count c.args.later.sequences second c.requires.3.sequences in
    let long = length-append first second in
    let short = (few_shown c.requires.0 c.requires.1 c.requires.4).0 in
    omega (arith, count, more, long, short)

pub join-order-requires : goal.join-order-requires
join-order-requires c =
    (map order_item (shown_by c.requires.0), map order_item (shown_by c.requires.1), c.requires.2.order, c.requires.3.order, λ key. tt)

pub join-of_events-requires : goal.join-of_events-requires
join-of_events-requires c =
    let sums = c.requires.2 in
    let others = c.requires.3 in
    let both = both_given (shown_by c.requires.0) (shown_by c.requires.1) sums.given others.given sums.are_all others.are_all in
    (sums.given, others.given, sums.sums, others.sums, subst AreFewEvents (sym both) (few_shown c.requires.0 c.requires.1 c.requires.4).1)

pub returns : goal.returns
returns c views later sums others good =
    let first = shown_by views in
    let second = shown_by later in
    let both = both_given first second sums.given others.given sums.are_all others.are_all in
    let pair = c.in_ok-order.ensures in
    subst (SumsPiece _) (sym (map-append placed_frame views later))
    (record {
      sequences = c.then.ensures first second sums.sequences others.sequences;
      order = order_both _ first second
          (IfOk-at_ok _ pair.0 c.join-order.ensures (map order_item first) (map order_item second) sums.order others.order (λ key. tt));
      given = sums.given ++ others.given;
      are_all = both;
      sums = IfOk-at_ok _ pair.1 c.join-of_events.ensures sums.given others.given sums.sums others.sums
          (subst AreFewEvents (sym both) (few_shown views later good).1);
    })
