-- What the sections `handles` and `nodes` have in common: the rows of each process in turn, and how many of them are
-- unbalanced (docs/REPORT.md).
use Rattle.std.specs.Prelude.{ℤ, pos, not, Bool, List, count_by}
use Rattle.std.specs.Ordering.{int_eq}
use Rattle.audit_findings.specs.declared.in_turn.ProcessRow.{ProcessRow}
use Rattle.audit_findings.specs.declared.references.References.{References}

-- whether a number is not zero
abbrev pub is_not_zero : ℤ → Bool
is_not_zero n = not (int_eq n (pos 0))

-- these rows, and how many of them are unbalanced
abbrev pub references : {R : Type 0} → (R → Bool) → List (ProcessRow R) → References R
references {R} is_unbalanced rows =
    record { unbalanced = count_by (λ (row : ProcessRow R). is_unbalanced row.row) rows; rows = rows }
