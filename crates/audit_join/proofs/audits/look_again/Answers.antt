use Rattle.std.proofs.Common.{length, sym, ◌∙◌}
use Rattle.std.proofs.lemmas.List.{length-map}
use Rattle.event_core.specs.Events.{events_of_frames}
use Rattle.process_ledgers.specs.Processes.{processes_of}
use Rattle.audit_findings.specs.Handles.{handles_in, handles_of_each}
use Rattle.audit_findings.specs.InTurn.{rows_in}
use Rattle.audit_join.proofs.LookJobs.{all_in_order, few_processes, jobs_long, no_least, process_work}
use Rattle.audit_join.proofs.audits.look_again.Goals as goal

pub run_all-requires-after_bounds : goal.run_all-requires-after_bounds
run_all-requires-after_bounds g c κs within =
    process_work (length (processes_of c.args.look.now)) (few_processes c.args.look.now c.requires)

pub returns-in-Ok : goal.returns-in-Ok
returns-in-Ok g c =
    let processes = processes_of c.args.look.now in
    let each = length-map processes (rows_in (handles_in (events_of_frames c.args.look.now))) in
    all_in_order (handles_of_each c.args.look.now) c.in-Ok.lists.items _ (jobs_long (length processes) ∙ sym each) c.in-Ok.ensures.results

pub unreachable-requires : goal.unreachable-requires
unreachable-requires g c =
    no_least (length (processes_of c.args.look.now)) c.in-Err-Least.field-0-0 (rw c.in-Err-Least.field-0-is at c.in-Err-Least.ensures.stop)
