use Rattle.audit_findings.proofs.ThreadLists.{rows_kept}
use Rattle.audit_findings.proofs.thread_rows.ThreadRows.of.Goals as goal

pub returns : goal.returns
returns c events sums rise =
    rows_kept c.args.ledger.threads.entries.entries events sums rise c.in_ok-rows.rows c.sort.new.self c.in_ok-rows.ensures c.sort.ensures
