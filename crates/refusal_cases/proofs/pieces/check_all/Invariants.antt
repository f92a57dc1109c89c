use Rattle.std.proofs.Common.{◌≡◌, None, take}
use Rattle.transaction_view.specs.Grammar.{first_content_fault}
use Rattle.refusal_cases.proofs.pieces.check_all.Given as goal

abbrev pub invariant-loop-number : goal.invariant-loop-number
invariant-loop-number l = first_content_fault (take l.number l.frames) ≡ None
