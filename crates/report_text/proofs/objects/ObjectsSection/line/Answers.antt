use Rattle.std.proofs.Common.{ap, ◌∙◌}
use Rattle.event_core.specs.Events.{EventRead}
use Rattle.report_text.specs.Objects.{objects_row}
use Rattle.report_text.proofs.objects.ObjectsSection.line.Goals as goal

pub returns : goal.returns
returns c = λ e there is.
    c.objects_row.ensures
    ∙ ap (λ (owner : EventRead). objects_row (record { owner = owner; bad = c.args.kept.now.bad })) (c.record_at.ensures e there is)
