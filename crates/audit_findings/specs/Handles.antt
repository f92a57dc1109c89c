-- The section `handles`: the references that each process has by handle, which are those that it took and those that
-- its deliveries hold (docs/REPORT.md).
use Rattle.std.specs.Prelude.{◌||◌, Bool, List, map}
use Rattle.capture_frame.specs.Envelope.{PlacedFrame}
use Rattle.capture_frame.specs.declared.process.Process.{Process}
use Rattle.event_core.specs.Events.{EventRead, events_of_frames}
use Rattle.handle_ledger.specs.Held.{held_rows}
use Rattle.handle_ledger.specs.declared.held_row.HeldRow.{HeldRow}
use Rattle.process_ledgers.specs.Items.{handle_item_of}
use Rattle.process_ledgers.specs.Processes.{items_of_process, processes_of}
use Rattle.audit_findings.specs.Held.{held_of_process, unweighed}
use Rattle.audit_findings.specs.InTurn.{in_turn, rows_in}
use Rattle.audit_findings.specs.References.{is_not_zero, references}
use Rattle.audit_findings.specs.declared.in_turn.ProcessRow.{ProcessRow}
use Rattle.audit_findings.specs.declared.references.References.{References}

-- the rows of a process: one for each handle that one of its BC_ACQUIRE, BC_RELEASE, BC_INCREFS and BC_DECREFS names or
-- that one of its leaked deliveries holds, handles rising
abbrev pub handles_in : List EventRead → Process → List HeldRow
handles_in events process =
    held_rows (items_of_process handle_item_of process events) (unweighed (held_of_process events process))

-- whether a handle is unbalanced: its strong or its weak count is not 0; what is held does not matter
abbrev pub is_unbalanced_handle : HeldRow → Bool
is_unbalanced_handle row = is_not_zero row.taken.strong.sum || is_not_zero row.taken.weak.sum

-- the rows of each process of these frames, in the order of first frames
abbrev pub handles_of_each : List PlacedFrame → List (List (ProcessRow HeldRow))
handles_of_each frames = map (rows_in (handles_in (events_of_frames frames))) (processes_of frames)

-- the section: the rows of each process in turn, and how many are unbalanced
abbrev pub handle_references : List PlacedFrame → References HeldRow
handle_references frames =
    references is_unbalanced_handle (in_turn (handles_in (events_of_frames frames)) (processes_of frames))
