use Rattle.std.proofs.Common.{◌≡◌, List, subst, rules}
use Rattle.capture_frame.specs.declared.process.Process.{Process}
use Rattle.event_core.specs.Events.{EventRead}
use Rattle.process_ledgers.specs.EachProcess.{AreLedgersOf}
use Rattle.summary_law.specs.declared.nothing.Nothing.{Nothing}
use Rattle.audit_findings.proofs.TurnLaws.{Turning, all_turned, turning_goes_on, turning_starts}
use Rattle.audit_findings.proofs.in_turn.rows_in_turn.Goals as goal

pub loop-process-init : goal.loop-process-init
loop-process-init g c =
    turning_starts g.S.ByProcess.rows_of c.args.processes c.into_iter-process-iterator.result
    c.into_iter-process-iterator.ensures.into_iter_gives.0 c.new-rows.result.items c.new-rows.ensures.items

pub loop-process-preserved : goal.loop-process-preserved
loop-process-preserved g c =
    let of = g.S.ByProcess.rows_of in
    let e : Process × Nothing = (c.in-Some.process.now, c.in-Some._nothing.now) in
    let pushed = c.in_ok-push_next.ensures in
    turning_goes_on of c.args.processes c.next.new.self e c.loop-process.rows.items c.push_next.new.rows.items pushed.0
    (subst (λ (t : List (Process × Nothing)). Turning of c.args.processes t c.loop-process.rows.items) c.in-Some.ensures.steps c.loop-process.invariant)
    (subst (λ ledgers. (events : List EventRead) → AreLedgersOf ledgers events e.0 → pushed.0 ≡ of events e.0) c.ledgers-ledgers.ensures pushed.1) pushed.2

pub returns : goal.returns
returns g c =
    all_turned g.S.ByProcess.rows_of c.args.processes c.loop-process.process-iterator (search rules) c.loop-process.rows.items c.loop-process.invariant
