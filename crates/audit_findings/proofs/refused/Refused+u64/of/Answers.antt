use Rattle.std.proofs.Common.{ℕ, map, sym, ap, ◌∙◌}
use Rattle.std.proofs.lemmas.Simd.{map-map}
use Rattle.std.specs.Prelude.{count_by}
use Rattle.event_core.specs.Events.{EventRead}
use Rattle.call_stacks.specs.declared.findings.RefusedSend.{RefusedSend}
use Rattle.audit_findings.specs.ThreadRows.{send_at_place}
use Rattle.summary_law.proofs.FilterLaws.{count_by-map}
use Rattle.audit_findings.proofs.refused.Refused+u64.of.Goals as goal

pub returns : goal.returns
returns c told is =
    let oneway : RefusedSend ℕ → _ = λ s. s.oneway in
    let place : RefusedSend ℕ → ℕ = λ s. s.event in
    let many = c.oneway_count.ensures ∙ ap (count_by oneway) is ∙ count_by-map send_at_place oneway told in
    let rows = c.of.ensures ∙ c.in_ok-places.ensures ∙ ap (map place) is ∙ map-map place send_at_place told
    ∙ sym (map-map (λ (e : EventRead). e.place) (λ (s : RefusedSend EventRead). s.event) told) in
    λ i. record { oneway = many i; rows = rows i }
