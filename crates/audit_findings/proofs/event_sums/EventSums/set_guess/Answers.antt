use Rattle.audit_findings.proofs.event_sums.EventSums.set_guess.Goals as goal

pub returns-clause-same : goal.returns-clause-same
returns-clause-same c events sums = record { all = sums.all; threads = sums.threads; processes = sums.processes }
