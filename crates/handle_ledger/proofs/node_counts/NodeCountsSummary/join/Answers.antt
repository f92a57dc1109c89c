use Rattle.std.proofs.Common.{arith}
use Rattle.std.proofs.lemmas.Int.{ints}
use Rattle.event_core.specs.declared.strength.Strength.TheVariants.{Strong, Weak}
use Rattle.handle_ledger.proofs.Counting.{can_join, count_both, sum_both, sum_small, sums_added}
use Rattle.handle_ledger.proofs.node_counts.NodeCountsSummary.join.Goals as goal
use Rattle.handle_ledger.specs.Nodes.{node_change, node_due_change}
use Rattle.summary_law.specs.Fits.{short_halves}

pub then-requires : goal.then-requires
then-requires c =
    let can = can_join (node_change Strong) c.args.self.strong c.args.later.strong
    c.requires.0 c.requires.1 c.requires.2.strong c.requires.3.strong c.requires.4 in
    record { sum_low = can.sum_low; sum_high = can.sum_high; low_low = can.low_low; low_high = can.low_high }

pub then-requires-2 : goal.then-requires-2
then-requires-2 c =
    let can = can_join (node_change Weak) c.args.self.weak c.args.later.weak
    c.requires.0 c.requires.1 c.requires.2.weak c.requires.3.weak c.requires.4 in
    record { sum_low = can.sum_low; sum_high = can.sum_high; low_low = can.low_low; low_high = can.low_high }

pub overflow_add-result : goal.overflow_add-result
overflow_add-result c =
    let few = short_halves c.requires.0 c.requires.1 c.requires.4 in
    let mine = sum_small (node_due_change Strong) c.args.self.strong_due c.requires.0 c.requires.2.strong_due few.0 in
    let theirs = sum_small (node_due_change Strong) c.args.later.strong_due c.requires.1 c.requires.3.strong_due few.1 in
    omega (arith, ints)

pub overflow_add-result-2 : goal.overflow_add-result-2
overflow_add-result-2 c =
    let few = short_halves c.requires.0 c.requires.1 c.requires.4 in
    let mine = sum_small (node_due_change Weak) c.args.self.weak_due c.requires.0 c.requires.2.weak_due few.0 in
    let theirs = sum_small (node_due_change Weak) c.args.later.weak_due c.requires.1 c.requires.3.weak_due few.1 in
    omega (arith, ints)

pub returns : goal.returns
returns c = λ first second mine theirs fits. record {
  strong = count_both (node_change Strong) c.args.self.strong c.args.later.strong c.then.result first second c.then.ensures mine.strong theirs.strong;
  weak = count_both (node_change Weak) c.args.self.weak c.args.later.weak c.then-2.result first second c.then-2.ensures mine.weak theirs.weak;
  strong_due = sum_both (node_due_change Strong) c.args.self.strong_due c.args.later.strong_due _ first second
      (sums_added (node_due_change Strong) c.args.self.strong_due c.args.later.strong_due first second mine.strong_due theirs.strong_due fits)
      mine.strong_due theirs.strong_due;
  weak_due = sum_both (node_due_change Weak) c.args.self.weak_due c.args.later.weak_due _ first second
      (sums_added (node_due_change Weak) c.args.self.weak_due c.args.later.weak_due first second mine.weak_due theirs.weak_due fits)
      mine.weak_due theirs.weak_due;
}
