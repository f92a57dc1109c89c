use Rattle.std.proofs.Common.{◌≡◌, ℕ, map, take}
use Rattle.call_stacks.specs.declared.findings.RefusedSend.{RefusedSend}
use Rattle.audit_findings.proofs.refused.places_of.Given as goal

-- the places so far are those of the first sends
abbrev pub invariant-loop-sent : goal.invariant-loop-sent
invariant-loop-sent l = l.places.items ≡ map (λ (s : RefusedSend ℕ). s.event) (take l.sent-index l.sends)
