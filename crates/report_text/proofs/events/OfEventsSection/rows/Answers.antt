use Rattle.std.proofs.Common.{refl}
use Rattle.report_text.proofs.Listed.{listed_lines, listed_rows}
use Rattle.report_text.proofs.events.OfEventsSection.rows.Goals as goal

pub returns-clause-readable : goal.returns-clause-readable
returns-clause-readable g c =
    let S = g.S.EventSection in
    listed_rows S.section (λ e. e.place) c.args.found.now c.places.result.now c.places.ensures (λ place. place) (λ e. e) (λ e. refl) S.kinds S.events

pub returns-clause-told : goal.returns-clause-told
returns-clause-told g c =
    let S = g.S.EventSection in
    listed_lines S.section (λ e. e.place) c.args.found.now c.places.result.now c.places.ensures (λ place. place) (λ e. e) (λ e. refl) S.kinds
    S.events (λ place. S.section.line) (λ e. refl)
