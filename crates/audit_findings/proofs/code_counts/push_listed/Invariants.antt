use Rattle.std.proofs.Common.{◌≡◌, ℕ, List, ◌++◌, filter, map, take}
use Rattle.audit_findings.specs.CodeCounts.{CountListed, has_records, listed_words}
use Rattle.audit_findings.specs.Codes.{code_row}
use Rattle.audit_findings.proofs.code_counts.push_listed.Given as goal

-- the rows of the lines so far follow those that were there
abbrev pub invariant-loop-place : goal.invariant-loop-place
invariant-loop-place l =
    (words : List ℕ) → CountListed l.counts words → l.rows.items ≡ l.initial.rows.items ++ filter has_records (map (code_row words) (take l.place listed_words))
