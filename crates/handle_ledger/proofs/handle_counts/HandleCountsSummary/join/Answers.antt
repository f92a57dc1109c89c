use Rattle.event_core.specs.declared.strength.Strength.TheVariants.{Strong, Weak}
use Rattle.handle_ledger.proofs.Counting.{can_join, count_both}
use Rattle.handle_ledger.proofs.handle_counts.HandleCountsSummary.join.Goals as goal
use Rattle.handle_ledger.specs.Handles.{handle_change}

pub then-requires : goal.then-requires
then-requires c =
    let can = can_join (handle_change Strong) c.args.self.strong c.args.later.strong
    c.requires.0 c.requires.1 c.requires.2.strong c.requires.3.strong c.requires.4 in
    record { sum_low = can.sum_low; sum_high = can.sum_high; low_low = can.low_low; low_high = can.low_high }

pub then-requires-2 : goal.then-requires-2
then-requires-2 c =
    let can = can_join (handle_change Weak) c.args.self.weak c.args.later.weak
    c.requires.0 c.requires.1 c.requires.2.weak c.requires.3.weak c.requires.4 in
    record { sum_low = can.sum_low; sum_high = can.sum_high; low_low = can.low_low; low_high = can.low_high }

pub returns : goal.returns
returns c = λ first second mine theirs fits. record {
  strong = count_both (handle_change Strong) c.args.self.strong c.args.later.strong c.then.result first second c.then.ensures mine.strong theirs.strong;
  weak = count_both (handle_change Weak) c.args.self.weak c.args.later.weak c.then-2.result first second c.then-2.ensures mine.weak theirs.weak;
}
