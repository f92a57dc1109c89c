use Rattle.std.proofs.Common.{ℕ, ◌++◌, Option, sym, ap, ◌∙◌}
use Rattle.report_text.specs.CallRow.{closer_field}
use Rattle.report_text.proofs.call_row.push_closer.Goals as goal

pub returns-in-Some : goal.returns-in-Some
returns-in-Some c = c.push_decimal.ensures.text ∙ ap (λ (closer : Option ℕ). c.args.line.now.bytes ++ closer_field closer) (sym c.in-Some.is)
