use Rattle.std.proofs.Common.{◌≡◌, ℕ, List, Vec, Global, sym, ap, subst, ◌∙◌}
use Rattle.std.proofs.lemmas.Result.{IfOk-at_ok}
use Rattle.audit_findings.specs.Handles.{handles_of_each}
use Rattle.audit_findings.specs.Kept.{AreSectionsOf}
use Rattle.audit_findings.specs.Ledgers.{AreUnfreed, SumsEvents}
use Rattle.audit_findings.specs.ThreadLedger.{SumsThreadCalls}
use Rattle.audit_findings.specs.declared.findings.Sections.{Sections}
use Rattle.capture_frame.specs.Envelope.{PlacedFrame}
use Rattle.event_core.specs.Events.{events_of_frames}
use Rattle.audit_findings.proofs.FrameLaws.{few_frames}
use Rattle.audit_findings.proofs.HandleRows.{lists_of}
use Rattle.audit_findings.proofs.SequenceLaws.{frame_count}
use Rattle.audit_findings.proofs.second_look.SecondLook.sections.Goals as goal

same_frames : {kept : Sections ℕ} {frames others : List PlacedFrame} → frames ≡ others → AreSectionsOf frames kept → AreSectionsOf others kept
same_frames {kept} same are = subst (λ fs. AreSectionsOf fs kept) same are

pub of-events-requires : goal.of-events-requires
of-events-requires c =
    let frames = c.self.inside.frames.now in
    let sums = c.self.invariant.1 in (
      events_of_frames frames,
      subst (SumsEvents c.self.inside.whole.of_events.all) sums.are_all sums.sums.all,
      (few_frames frames c.self.invariant.0).1,
    )

pub returns : goal.returns
returns c listed =
    let look = c.self.inside in
    let frames = look.frames.now in
    let sums = c.self.invariant.1 in
    let all = events_of_frames frames in
    let rise = (few_frames frames c.self.invariant.0).1.0.1 in
    let whole = c.in_ok-events.ensures in
    let half = IfOk-at_ok _ whole.0 c.both.ensures in
    let count = frame_count look.whole.sequences frames sums.sequences in
    let missing = c.missing-missing.ensures frames sums.sequences in
    let calls = IfOk-at_ok _ half.1 c.of-calls.ensures all (subst (SumsThreadCalls look.whole.of_events.threads) sums.are_all sums.sums.threads) rise in
    let events = IfOk-at_ok _ half.0 c.of-events.ensures all (subst (SumsEvents look.whole.of_events.all) sums.are_all sums.sums.all) in
    let own = subst (λ (lists : List (Vec ℕ Global)). AreUnfreed frames (lists_of lists)) (sym c.as_slice-unfreed.ensures.value) c.self.invariant.2 in
    let rows = listed ∙ ap handles_of_each (sym c.self.view_is) in
    let processes = IfOk-at_ok _ whole.1 c.sections_of_processes-processes.ensures frames sums own rows rise in
    same_frames c.self.view_is
    (λ i. record { frames = count i; missing = missing i; events = events i; calls = calls i; processes = processes i })
