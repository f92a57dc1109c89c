use Rattle.std.proofs.Common.{◌≡◌, None, take}
use Rattle.transaction_view.specs.Grammar.{first_content_fault}
use Rattle.audit_judge.proofs.piece_checks.first_in.Given as goal

abbrev pub invariant-loop-number : goal.invariant-loop-number
invariant-loop-number l = first_content_fault (take l.number l.frames) ≡ None
