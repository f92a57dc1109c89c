use Rattle.std.proofs.Common.{sym, subst}
use Rattle.audit_findings.specs.ThreadLedger.{fed_calls}
use Rattle.audit_findings.proofs.ThreadFits.{SumsFedCalls, fit_after, fed_after}
use Rattle.audit_findings.proofs.thread_ledger.ThreadLedger.join.Goals as goal

pub join-requires : goal.join-requires
join-requires c =
    let first = c.requires.0 in
    let second = c.requires.1 in
    (fed_calls first, fed_calls second, c.requires.2.sums, c.requires.3.sums, fit_after first second c.requires.4)

pub returns : goal.returns
returns c first second sums more few = record {
  placed = few.0;
  sums = subst (SumsFedCalls _) (sym (fed_after first second))
      (c.in_ok-join.ensures (fed_calls first) (fed_calls second) sums.sums more.sums (fit_after first second few));
}
