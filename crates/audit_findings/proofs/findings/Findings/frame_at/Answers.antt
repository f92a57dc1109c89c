use Rattle.std.proofs.Common.{List, subst, sym, ◌∙◌}
use Rattle.std.specs.Prelude.{AllPairs}
use Rattle.capture_frame.specs.Envelope.{PlacedFrame}
use Rattle.capture_frame.specs.Lookup.{AreApart, IsFrameAt}
use Rattle.audit_findings.proofs.PlacesRise.{joined_apart}
use Rattle.audit_findings.proofs.findings.Findings.frame_at.Goals as goal

pub frame_at-requires : goal.frame_at-requires
frame_at-requires c = subst (AllPairs AreApart) (sym (c.as_slice.ensures ∙ c.self.invariant.0.in_order)) (joined_apart c.self.invariant.0.texts)

-- these frames are the findings' own
pub returns : goal.returns
returns c =
    subst (λ (t : List PlacedFrame). IsFrameAt t c.args.place c.frame_at.result) (c.as_slice.ensures ∙ c.self.view_is) c.frame_at.ensures
