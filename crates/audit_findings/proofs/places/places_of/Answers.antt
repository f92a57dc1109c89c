use Rattle.std.proofs.Common.{ap, ◌∙◌}
use Rattle.std.proofs.lemmas.Result.{IfOk-weaker}
use Rattle.audit_findings.proofs.HandleRows.{lists_of}
use Rattle.audit_findings.proofs.places.places_of.Goals as goal

pub returns : goal.returns
returns g c =
    IfOk-weaker c.gathered.result _ _
    (λ places gives frames of rise.
    gives frames rise (ap lists_of c.as_slice.ensures.value ∙ c.in_ok-lists.ensures frames of))
    c.gathered.ensures
