use Rattle.std.proofs.Common.{List, sym, ap, ◌∙◌}
use Rattle.std.specs.List.{flat_map}
use Rattle.std.proofs.lemmas.List.Folds.{flat_map-map}
use Rattle.event_core.specs.Events.{events_of_frames}
use Rattle.handle_ledger.specs.declared.held_row.HeldRow.{HeldRow}
use Rattle.process_ledgers.specs.Processes.{processes_of}
use Rattle.audit_findings.specs.Handles.{handles_in, is_unbalanced_handle}
use Rattle.audit_findings.specs.InTurn.{rows_in}
use Rattle.audit_findings.specs.References.{references}
use Rattle.audit_findings.specs.declared.in_turn.ProcessRow.{ProcessRow}
use Rattle.audit_findings.proofs.HandleRows.{items_in}
use Rattle.audit_findings.proofs.handles.handles_of.Goals as goal

pub returns : goal.returns
returns c frames listed =
    let rows = λ (list : List (ProcessRow HeldRow)). list in
    c.references_of.ensures
    ∙ ap (references is_unbalanced_handle)
    (c.in_ok-joined.ensures ∙ sym (flat_map-map rows items_in c.args.lists.now) ∙ ap (flat_map rows) listed
    ∙ flat_map-map rows (rows_in (handles_in (events_of_frames frames))) (processes_of frames))
