use Rattle.std.proofs.Common.{◌≡◌, ℕ, ◌++◌, codes, sym, subst, ◌∙◌, rules}
use Rattle.std.specs.Fmt.{decimal}
use Rattle.report_text.specs.Fault.{fault_words, part_fault_line}
use Rattle.report_text.proofs.FaultLines.{one_line_said, many_lines_said}
use Rattle.report_text.proofs.fault.part_fault_text.Goals as goal

pub returns-then-parts-eq1-clause-line : goal.returns-then-parts-eq1-clause-line
returns-then-parts-eq1-clause-line c =
    subst (λ (n : ℕ). c.fault_text.result.bytes ≡ part_fault_line n c.args.found) (sym c.if-parts-eq1.true)
    (c.fault_text.ensures.line ∙ sym (one_line_said c.args.found))

pub returns-clause-line : goal.returns-clause-line
returns-clause-line c =
    let pushed : c.push_str.new.self.bytes ≡ (fault_words c.args.found.fault ++ codes " in part " ++ decimal c.args.found.part) ++ codes "\n" = search rules in
    pushed ∙ sym (many_lines_said c.args.parts c.args.found c.if-parts-eq1.false)
