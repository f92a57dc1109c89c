use Rattle.std.proofs.Common.{◌∷◌, [], ◌<◌, ◌^◌, length-append, arith, rules}
use Rattle.std.proofs.lemmas.List.Sums.{sum_by-append}
use Rattle.summary_law.proofs.amount.AmountSummary.add.Goals as goal

pub overflow_add-self-2 : goal.overflow_add-self-2
overflow_add-self-2 c =
    let short = c.requires.2 in
    let long = length-append c.requires.0 (c.args.item ∷ []) in
    let width : c.args.item < 2 ^ 64 = search rules in
    let small = c.requires.1.small in
    omega (arith, short, long, width, small, c.from.ensures)

pub returns : goal.returns
returns c = λ items sums fits.
    let long = length-append items (c.args.item ∷ []) in
    let whole = sum_by-append (λ w. w) items (c.args.item ∷ []) in
    let width : c.args.item < 2 ^ 64 = search rules in
    record {
      count = omega (arith, sums.count, long);
      sum = omega (arith, sums.sum, whole, c.from.ensures);
      small = omega (arith, sums.small, long, width, c.from.ensures);
    }
