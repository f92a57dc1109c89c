use Rattle.std.proofs.Common.{sym, arith}
use Rattle.report_text.proofs.Hexadecimal.{length-hex, length-hex_one, length-hex_more}
use Rattle.report_text.proofs.line.+digit_count.Goals as goal

pub returns-then-number-lt16 : goal.returns-then-number-lt16
returns-then-number-lt16 t c = (sym (length-hex_one c.args.number c.if-number-lt16.true), omega arith)

pub returns : goal.returns
returns t c =
    let many = c.if-number-lt16.false in
    let more = length-hex_more c.args.number (omega (arith, many)) c.ranges.number.fits in
    let few = length-hex c.args.number c.ranges.number.fits in
    let front = c.digit_count.ensures.0 in
    (omega (arith, more, front), omega (arith, more, front, few))
