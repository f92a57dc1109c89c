use Rattle.std.proofs.Common.{List, sym, subst}
use Rattle.capture_frame.specs.Envelope.{PlacedFrame}
use Rattle.audit_findings.specs.Kept.{AreSectionsOf}
use Rattle.audit_judge.specs.Jobs.{AreCut, AreSound}
use Rattle.audit_join.proofs.audits.findings_of.Goals as goal

pub sections_of-requires-clause-cut : goal.sections_of-requires-clause-cut
sections_of-requires-clause-cut g c κs within = subst AreCut (sym c.as_slice.ensures) c.requires.cut

pub sections_of-requires-clause-sound : goal.sections_of-requires-clause-sound
sections_of-requires-clause-sound g c κs within = subst AreSound (sym c.as_slice.ensures) c.requires.sound

pub new-requires-clause-capture : goal.new-requires-clause-capture
new-requires-clause-capture g c = record { texts = c.requires.joined.0; in_order = c.requires.joined.1; good = c.requires.sound }

pub new-requires-clause-sections : goal.new-requires-clause-sections
new-requires-clause-sections g c =
    subst (λ (fs : List PlacedFrame). AreSectionsOf fs c.in_ok-sections.sections) c.as_slice.ensures c.in_ok-sections.ensures
