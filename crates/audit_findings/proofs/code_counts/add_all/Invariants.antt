use Rattle.std.proofs.Common.{◌≡◌, ℕ, ◌+◌, ◌<◌, ◌≤◌, get_or, length}
use Rattle.audit_findings.proofs.code_counts.add_all.Given as goal

-- the counts so far have the later ones added, and the others are as they were
abbrev pub invariant-loop-place : goal.invariant-loop-place
invariant-loop-place l = record {
  long : length l.counts ≡ length l.initial.counts;
  done : (k : ℕ) → k < l.place → get_or l.counts k 0 ≡ get_or l.initial.counts k 0 + get_or l.later k 0;
  rest : (k : ℕ) → l.place ≤ k → get_or l.counts k 0 ≡ get_or l.initial.counts k 0;
}
