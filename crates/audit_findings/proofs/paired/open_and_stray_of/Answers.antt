use Rattle.std.proofs.Common.{◌≡◌, List, ℕ, ◌++◌, length, IsPermutation, ap, subst, ◌∙◌, rules}
use Rattle.event_core.specs.Events.{events_of_frames}
use Rattle.audit_findings.proofs.EventLists.{both_kept}
use Rattle.audit_findings.proofs.paired.open_and_stray_of.Goals as goal

pub returns : goal.returns
returns g c = λ frames of rise.
    let opens = c.in_ok-places.places.items in
    let closes = c.in_ok-closes.closes.items in
    let sorted = c.sort_unstable.new.self.items in
    let joined : c.extend_from_slice.new.self.items ≡ opens ++ closes
    = c.in_ok-extend_from_slice.ensures.items ∙ ap (λ (t : List ℕ). opens ++ t) c.as_slice.ensures.value in
    let many_opens : c.len-opens.result ≡ length opens = search rules in
    let many_closes : c.len.result ≡ length closes = search rules in
    both_kept g.P.OpensAndCloses.read (events_of_frames frames) rise opens closes sorted
    (c.in_ok-places.ensures frames of rise) (c.in_ok-closes.ensures frames of rise)
    (subst (λ (t : List ℕ). IsPermutation t sorted) joined c.sort_unstable.ensures.permutation) c.sort_unstable.ensures.sorted
    (record { unclosed = c.len-opens.result; strays = c.len.result; rows = c.of.result }) many_opens many_closes c.of.ensures
