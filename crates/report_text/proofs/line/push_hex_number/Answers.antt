use Rattle.std.proofs.Common.{ℕ, List, ◌++◌, ap, ◌∙◌, arith, append_assoc, codes}
use Rattle.report_text.specs.Line.{hex_digits}
use Rattle.report_text.proofs.Hexadecimal.{all_digits}
use Rattle.report_text.proofs.line.push_hex_number.Goals as goal

pub push_hex_digits-requires : goal.push_hex_digits-requires
push_hex_digits-requires c = omega (arith, c.requires, c.push_str.ensures.len, c.digit_count.ensures.1)

pub returns-clause-text : goal.returns-clause-text
returns-clause-text c =
    let n = c.args.number in
    c.push_hex_digits.ensures.text ∙ ap (λ (t : List ℕ). t ++ hex_digits c.digit_count.result n) c.push_str.ensures.bytes
    ∙ append_assoc c.args.line.now.bytes (codes "0x") (hex_digits c.digit_count.result n)
    ∙ ap (λ (t : List ℕ). c.args.line.now.bytes ++ (codes "0x" ++ t))
    (ap (λ (k : ℕ). hex_digits k n) c.digit_count.ensures.0 ∙ all_digits n c.ranges.number.fits)

pub returns-clause-short : goal.returns-clause-short
returns-clause-short c = omega (arith, c.push_str.ensures.len, c.push_hex_digits.ensures.length, c.digit_count.ensures.1)
