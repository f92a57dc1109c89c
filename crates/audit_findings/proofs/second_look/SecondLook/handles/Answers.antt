use Rattle.std.proofs.Common.{◌≡◌, ℕ, List, Some, map, sym, ap, subst, ◌∙◌}
use Rattle.std.specs.List.{slice_get}
use Rattle.std.specs.Option.{option_map}
use Rattle.std.proofs.lemmas.Option.{slice_get-map}
use Rattle.std.proofs.lemmas.Result.{IfOk-weaker}
use Rattle.capture_frame.specs.Envelope.{PlacedFrame}
use Rattle.capture_frame.specs.declared.process.Process.{Process}
use Rattle.event_core.specs.Events.{events_of_frames}
use Rattle.process_ledgers.specs.EachProcess.{AreLedgersOf}
use Rattle.process_ledgers.specs.Processes.{processes_of}
use Rattle.summary_law.specs.declared.nothing.Nothing.{Nothing}
use Rattle.audit_findings.specs.Buffers.{is_leaked}
use Rattle.handle_ledger.specs.declared.held_row.HeldRow.{HeldRow}
use Rattle.audit_findings.specs.declared.in_turn.ProcessRow.{ProcessRow}
use Rattle.audit_findings.specs.Handles.{handles_in, handles_of_each}
use Rattle.audit_findings.specs.InTurn.{process_row, rows_in}
use Rattle.audit_findings.specs.Places.{places_in}
use Rattle.audit_findings.proofs.HandleRows.{entry_at, items_in, own_at}
use Rattle.audit_findings.proofs.second_look.SecondLook.handles.Goals as goal

-- the rows with this number are those of the process with this number
rows_at : (frames : List PlacedFrame) (number : ℕ) (process : Process) (rows : List (ProcessRow HeldRow))
    → slice_get (processes_of frames) number ≡ Some process → rows ≡ rows_in (handles_in (events_of_frames frames)) process
    → slice_get (handles_of_each frames) number ≡ Some rows
rows_at frames number process rows there are =
    let each = rows_in (handles_in (events_of_frames frames)) in
    slice_get-map each (processes_of frames) number ∙ ap (option_map each) there ∙ ap Some (sym are)

pub returns : goal.returns
returns c =
    IfOk-weaker c.listed_handles-rows.result _ _
    (λ rows given.
    let look = c.self.inside in
    let frames = look.frames.now in
    let events = events_of_frames frames in
    let of = c.processes-processes.ensures frames c.self.invariant.1 c.empty-none.ensures in
    let e : Process × Nothing = (c.unwrap.result.0.now, c.unwrap.result.1.now) in
    let there = entry_at c.processes-processes.result frames c.args.number e of (sym (rw c.unwrap.ensures at c.get_index.ensures.entry)) in
    let own = subst (λ ledgers. AreLedgersOf ledgers events e.0) (sym c.ledgers-ledgers.ensures) (of.each e.0) in
    let unfreed = own_at (places_in is_leaked events) (processes_of frames) look.unfreed.items c.self.invariant.2 c.args.number e.0 there c.index.result.now in
    let rows_are = given.2 ∙ ap (map (process_row e.0)) (given.1 e.0 own (c.as_slice-unfreed.ensures.value ∙ ap items_in c.index.ensures ∙ unfreed)) in
    ap (λ fs. slice_get (handles_of_each fs) c.args.number) (sym c.self.view_is) ∙ rows_at frames c.args.number e.0 rows.items there rows_are)
    c.listed_handles-rows.ensures
