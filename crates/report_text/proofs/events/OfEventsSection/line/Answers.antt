use Rattle.std.proofs.Common.{ap, ◌∙◌}
use Rattle.report_text.proofs.Listed.{row_kind}
use Rattle.report_text.proofs.events.OfEventsSection.line.Goals as goal

pub line-requires : goal.line-requires
line-requires g c = row_kind g.S.EventSection.kinds c.args.found.now c.args.kept.now c.record_at.result c.requires c.record_at.ensures

pub returns : goal.returns
returns g c = λ e there is.
    c.line.ensures ∙ ap g.S.EventSection.section.line (c.record_at.ensures e there is) ∙ g.S.EventSection.bare e
