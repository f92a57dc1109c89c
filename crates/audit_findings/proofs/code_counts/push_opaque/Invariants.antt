use Rattle.std.proofs.Common.{◌≡◌, ◌++◌, map, take}
use Rattle.audit_findings.specs.CodeCounts.{row_of}
use Rattle.audit_findings.proofs.code_counts.push_opaque.Given as goal

-- the rows so far follow those that were there
abbrev pub invariant-loop-word : goal.invariant-loop-word
invariant-loop-word l = l.rows.items ≡ l.initial.rows.items ++ map row_of (take l.word-index l.tallied)
