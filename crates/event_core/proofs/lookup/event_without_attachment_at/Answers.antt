use Rattle.std.proofs.Common.{◌≡◌, Some, Ok, refl, sym, ap, ◌∙◌, arith}
use Rattle.capture_frame.specs.Envelope.{frame_text, placed_frame}
use Rattle.capture_frame.specs.Units.{placed_at}
use Rattle.record_view.proofs.RecordLaws.{records_there}
use Rattle.record_view.specs.State.{placed_record}
use Rattle.event_core.specs.Events.{bare_event}
use Rattle.event_core.proofs.RecordAt.{first_given}
use Rattle.event_core.proofs.lookup.event_without_attachment_at.Goals as goal

pub at-records-requires : goal.at-records-requires
at-records-requires c =
    let at = c.requires.1 in
    let within = rw at.2 at (records_there (placed_frame c.args.frame) at.0 (placed_at c.args.place c.requires.0) at.1) in
    record { from = within.0; to = omega (arith, within.1) }

pub unwrap-requires : goal.unwrap-requires
unwrap-requires c =
    let first = first_given c.args.frame c.args.place c.requires.0 c.requires.1 c.next_record.result c.next_record.new.self
    (rw c.at-records.ensures at c.next_record.ensures) in
    rw first.1 refl

pub unwrap-record-requires : goal.unwrap-record-requires
unwrap-record-requires c =
    let first = first_given c.args.frame c.args.place c.requires.0 c.requires.1 c.next_record.result c.next_record.new.self
    (rw c.at-records.ensures at c.next_record.ensures) in
    let same : Some first.0 ≡ c.unwrap.result = let both : Ok (Some first.0) ≡ Ok c.unwrap.result = sym first.1 ∙ c.unwrap.ensures in cc in
    rw (← same) refl

pub returns : goal.returns
returns c found is_at =
    let first = first_given c.args.frame c.args.place found is_at c.next_record.result c.next_record.new.self
    (rw c.at-records.ensures at c.next_record.ensures) in
    let same : first.0 ≡ c.unwrap-record.result =
    let both : Ok (Some first.0) ≡ Ok (Some c.unwrap-record.result) = sym first.1 ∙ c.unwrap.ensures ∙ ap Ok c.unwrap-record.ensures in cc in
    c.event_of.ensures ∙ ap (bare_event (frame_text c.args.frame)) (ap placed_record (sym same) ∙ first.2)
