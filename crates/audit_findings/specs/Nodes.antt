-- The section `nodes`: the references that the driver asks each process to keep to its nodes (docs/REPORT.md).
use Rattle.std.specs.Prelude.{◌||◌, Bool, List}
use Rattle.capture_frame.specs.declared.process.Process.{Process}
use Rattle.capture_frame.specs.Envelope.{PlacedFrame}
use Rattle.event_core.specs.Events.{EventRead, events_of_frames}
use Rattle.handle_ledger.specs.Nodes.{node_rows}
use Rattle.handle_ledger.specs.declared.node_row.NodeRow.{NodeRow}
use Rattle.process_ledgers.specs.Items.{node_item_of}
use Rattle.process_ledgers.specs.Processes.{items_of_process, processes_of}
use Rattle.audit_findings.specs.declared.references.References.{References}
use Rattle.audit_findings.specs.InTurn.{in_turn}
use Rattle.audit_findings.specs.References.{is_not_zero, references}

-- the rows of a process: one for each node that one of its BR_ACQUIRE, BR_RELEASE, BC_ACQUIRE_DONE, BR_INCREFS,
-- BR_DECREFS and BC_INCREFS_DONE names, by rising ptr and then by rising cookie
abbrev pub nodes_in : List EventRead → Process → List NodeRow
nodes_in events process = node_rows (items_of_process node_item_of process events)

-- whether a node is unbalanced: one of its four counts, strong, weak, strong due and weak due, is not 0
abbrev pub is_unbalanced_node : NodeRow → Bool
is_unbalanced_node row =
    is_not_zero row.counts.strong.sum || is_not_zero row.counts.weak.sum || is_not_zero row.counts.strong_due
    || is_not_zero row.counts.weak_due

-- the section: the rows of each process in turn, and how many are unbalanced
abbrev pub node_references : List PlacedFrame → References NodeRow
node_references frames =
    references is_unbalanced_node (in_turn (nodes_in (events_of_frames frames)) (processes_of frames))
