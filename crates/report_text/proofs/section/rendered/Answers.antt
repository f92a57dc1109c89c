use Rattle.capture_frame.specs.Envelope.{PlacedFrame}
use Rattle.std.proofs.Common.{List, ap, subst, ◌∙◌}
use Rattle.std.specs.List.{AllZip}
use Rattle.rayon.proofs.ListFacts.{IfOk-then}
use Rattle.rayon.proofs.ToStd.{slice-AllZip}
use Rattle.report_text.proofs.section.rendered.Goals as goal

pub returns : goal.returns
returns g c =
    let shows = g.S.Section.shows in
    let slice = ap (λ it. it.slice.now) c.map.ensures.base ∙ c.par_iter.ensures in
    IfOk-then c.collect.result _ _ c.collect.ensures (λ v h.
    let zipped = subst (λ (frames : List PlacedFrame). AllZip (λ kept row. shows frames kept.now row.bytes) h.1.0 h.0) (ap (λ f. f.1.now) c.map.ensures.f) h.1.2 in
    rw h.2 (slice-AllZip h.1.0 c.args.kept.now (h.1.1 ∙ slice) (λ kept row. shows c.args.found.now kept row.bytes) h.0 zipped))
