use Rattle.std.proofs.Common.{sym, ap, subst, ◌∙◌}
use Rattle.std.specs.Prelude.{None}
use Rattle.std.proofs.lemmas.List.Elements.{All-contains}
use Rattle.capture_frame.specs.Envelope.{PlacedFrame}
use Rattle.capture_frame.specs.Units.{placed_at}
use Rattle.event_core.specs.Events.{EventRead, HasRecordAt, RecordIsAtPlace, bare_event, events_of_frames}
use Rattle.capture_frame.specs.Lookup.{IsFrameAt}
use Rattle.capture_frame.proofs.LookupLaws.{one_held, some_held}
use Rattle.audit_findings.proofs.RecordsThere.{IsEventIn, events_in, record_held}
use Rattle.audit_findings.proofs.findings.Findings.record_at.Goals as goal

pub unwrap-frame-requires : goal.unwrap-frame-requires
unwrap-frame-requires c =
    some_held c.args.self.now c.args.place c.frame_at.result c.requires.0 c.frame_at.ensures c.requires.1
    (record_held c.requires.0 c.args.place c.requires.2)

pub event_without_attachment_at-requires : goal.event_without_attachment_at-requires
event_without_attachment_at-requires c =
    let at = subst (IsFrameAt c.args.self.now c.args.place) c.unwrap-frame.ensures c.frame_at.ensures in
    let same = one_held c.args.self.now c.args.place c.unwrap-frame.result c.requires.0 at c.requires.1
    (record_held c.requires.0 c.args.place c.requires.2) in
    subst (λ (f : PlacedFrame). HasRecordAt f c.args.place) same c.requires.2

pub returns : goal.returns
returns c e there is =
    let at = subst (IsFrameAt c.args.self.now c.args.place) c.unwrap-frame.ensures c.frame_at.ensures in
    let event = All-contains (IsEventIn c.args.self.now) (events_of_frames c.args.self.now) e (events_in c.args.self.now) there in
    let here = sym (ap (λ (x : EventRead). x.place) event.is) ∙ is in
    let is_at = subst (λ n. RecordIsAtPlace event.frame n event.found.unit) here event.inside in
    let same = one_held c.args.self.now c.args.place c.unwrap-frame.result event.frame at event.there
    (record_held event.frame c.args.place (event.found.unit, is_at)) in
    c.event_without_attachment_at.ensures event.found.unit (subst (λ (f : PlacedFrame). RecordIsAtPlace f c.args.place event.found.unit) same is_at)
    ∙ ap (λ (f : PlacedFrame). bare_event f.unit (placed_at c.args.place event.found.unit)) (sym same)
    ∙ ap (λ n. bare_event event.frame.unit (placed_at n event.found.unit)) (sym here)
    ∙ ap (λ (x : EventRead). record x { entry = None }) (sym event.is)
