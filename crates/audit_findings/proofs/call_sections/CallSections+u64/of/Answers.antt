use Rattle.std.proofs.Common.{◌<◌, ◌^◌, filter, length, ◌∙◌, arith}
use Rattle.audit_findings.specs.Calls.{is_made, is_served, openers, refused_sends}
use Rattle.audit_findings.proofs.CallsTold.{made_kept, served_kept}
use Rattle.audit_findings.proofs.call_sections.CallSections+u64.of.Goals as goal

pub returns : goal.returns
returns c events sums rise =
    let rows = c.in_ok-made.ensures events sums rise in
    let short = sums.placed.0 in
    let few : length events < 2 ^ 64 = omega (arith, short) in
    let calls = c.of-3.ensures (filter is_made (openers events)) rows.answered rows.made (made_kept events few _ rows.answered _ rows.made) in
    let served = c.of-4.ensures (filter is_served (openers events)) rows.replied rows.served (served_kept events few _ rows.replied _ rows.served) in
    let strays = c.of-5.ensures ∙ rows.strays in
    let refused = c.in_ok-refused.ensures (refused_sends events) (c.as_slice.ensures.value ∙ rows.sends) in
    λ i. record { calls = calls i; served = served i; strays = strays i; refused = refused i }
