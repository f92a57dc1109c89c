use Rattle.std.proofs.Common.{◌++◌, map, sym, subst}
use Rattle.std.proofs.lemmas.List.{map-append}
use Rattle.std.proofs.lemmas.Result.{IfOk-at_ok}
use Rattle.event_core.specs.Reading.{event_text}
use Rattle.audit_findings.specs.Ledgers.{AreFewEvents, SumsEvents}
use Rattle.audit_findings.specs.ThreadLedger.{SumsThreadCalls}
use Rattle.audit_findings.proofs.GivenLaws.{SumsAll, FitAll, each_placed}
use Rattle.process_ledgers.specs.Concerns.{concerned}
use Rattle.summary_law.proofs.FedLaws.{can_join_picked, picked_joined}
use Rattle.audit_findings.proofs.event_sums.EventSumsSummary.join.Goals as goal

pub join-all-requires : goal.join-all-requires
join-all-requires c =
    let first = c.requires.0 in
    let second = c.requires.1 in
    (map event_text first, map event_text second, c.requires.2.all, c.requires.3.all, subst AreFewEvents (map-append event_text first second) c.requires.4)

pub join-threads-requires : goal.join-threads-requires
join-threads-requires c =
    let first = c.requires.0 in
    let second = c.requires.1 in
    (map event_text first, map event_text second, c.requires.2.threads, c.requires.3.threads, subst AreFewEvents (map-append event_text first second) c.requires.4)

pub join-processes-requires : goal.join-processes-requires
join-processes-requires c =
    can_join_picked concerned SumsAll FitAll c.args.self.processes c.args.later.processes
    (c.requires.0, c.requires.1, c.requires.2.processes, c.requires.3.processes, each_placed (c.requires.0 ++ c.requires.1) c.requires.4)

pub returns : goal.returns
returns c first second sums others few =
    let both = map-append event_text first second in
    let fits = subst AreFewEvents both few in
    let two = c.in_ok-all.ensures in
    record {
      all = subst (SumsEvents c.in_ok-all.all) (sym both) (IfOk-at_ok _ two.0 c.join-all.ensures (map event_text first) (map event_text second) sums.all others.all fits);
      threads = subst (SumsThreadCalls c.in_ok-all.threads) (sym both)
          (IfOk-at_ok _ two.1 c.join-threads.ensures (map event_text first) (map event_text second) sums.threads others.threads fits);
      processes = picked_joined concerned SumsAll FitAll c.args.self.processes c.args.later.processes c.in_ok-processes.processes c.in_ok-processes.ensures
          first second sums.processes others.processes (each_placed (first ++ second) few);
    }
