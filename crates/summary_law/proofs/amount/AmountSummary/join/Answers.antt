use Rattle.std.proofs.Common.{length-append, arith}
use Rattle.std.proofs.lemmas.List.Sums.{sum_by-append}
use Rattle.summary_law.proofs.amount.AmountSummary.join.Goals as goal

pub overflow_add-result-2 : goal.overflow_add-result-2
overflow_add-result-2 c =
    let short = c.requires.4 in
    let long = length-append c.requires.0 c.requires.1 in
    let mine = c.requires.2.small in
    let theirs = c.requires.3.small in
    omega (arith, short, long, mine, theirs)

pub returns : goal.returns
returns c = λ first second mine theirs fits.
    let long = length-append first second in
    let whole = sum_by-append (λ w. w) first second in
    record {
      count = omega (arith, mine.count, theirs.count, long);
      sum = omega (arith, mine.sum, theirs.sum, whole);
      small = omega (arith, mine.small, theirs.small, long);
    }
