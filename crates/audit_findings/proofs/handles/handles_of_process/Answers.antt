use Rattle.std.proofs.Common.{◌≤◌, ◌^◌, List, [], sym, ap, subst, ◌∙◌}
use Rattle.std.proofs.lemmas.Result.{IfOk-weaker}
use Rattle.event_core.specs.Events.{events_of_frames}
use Rattle.handle_ledger.specs.Held.{Held, held_rows}
use Rattle.process_ledgers.specs.Items.{handle_item_of}
use Rattle.process_ledgers.specs.Processes.{items_of_process}
use Rattle.audit_findings.specs.Buffers.{is_leaked}
use Rattle.audit_findings.specs.Entries.{AreChosen, carried_by, list_bytes}
use Rattle.audit_findings.specs.Held.{unweighed}
use Rattle.audit_findings.specs.HeldCounts.{CountsEntries}
use Rattle.audit_findings.specs.Places.{passing_in}
use Rattle.audit_findings.proofs.FrameLaws.{frames_rise}
use Rattle.audit_findings.proofs.HandleRows.{is_among, listed_again, listed_chosen}
use Rattle.audit_findings.proofs.HeldLaws.{held_among, held_by_events}
use Rattle.audit_findings.proofs.handles.handles_of_process.Goals as goal

pub returns : goal.returns
returns c =
    IfOk-weaker c.rows_held.result _ _
    (λ rows gives process of unfreed.
    let events = events_of_frames c.args.frames.now in
    let rise = frames_rise c.args.frames.now c.requires.apart in
    let choice = is_among (passing_in is_leaked process events) in
    let chosen = subst (AreChosen choice events []) (sym unfreed) (listed_chosen is_leaked process events rise) in
    let entries = c.in_ok-entries.entries.items in
    let shown = c.in_ok-entries.ensures.entries choice chosen in
    let counts = subst (λ es. CountsEntries es c.in_ok-held.held) c.as_slice.ensures.value c.in_ok-held.ensures in
    let items = items_of_process handle_item_of process events in
    gives items (unweighed (held_among entries)) of.handles counts
    ∙ ap (λ (held : List Held). held_rows items (unweighed held)) (held_by_events (passing_in is_leaked process events) entries
    (shown ∙ ap carried_by (listed_again is_leaked process events rise))))
    c.rows_held.ensures

pub held_by-requires : goal.held_by-requires
held_by-requires c = subst (λ es. list_bytes es ≤ 2 ^ 32) (sym c.as_slice.ensures.value) c.in_ok-entries.ensures.few
