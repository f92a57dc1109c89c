use Rattle.std.proofs.Common.{arith}
use Rattle.std.proofs.lemmas.Int.{ints}
use Rattle.event_core.specs.declared.strength.Strength.TheVariants.{Strong, Weak}
use Rattle.handle_ledger.proofs.Counting.{can_raise, can_lower}
use Rattle.handle_ledger.proofs.NodeLaws.{node_more, dues_small}
use Rattle.handle_ledger.proofs.node_counts.NodeCountsSummary.add.Goals as goal
use Rattle.handle_ledger.specs.Nodes.{node_change}
use Rattle.summary_law.proofs.CountLaws.{kept_counts}

pub raise-requires : goal.raise-requires
raise-requires c = can_raise (node_change Strong) c.args.self.now.strong c.requires.0 c.args.item c.requires.1.strong c.requires.2

pub lower-requires : goal.lower-requires
lower-requires c = can_lower (node_change Strong) c.args.self.now.strong c.requires.0 c.args.item c.requires.1.strong c.requires.2

pub raise-requires-in-Weak-Raise : goal.raise-requires-in-Weak-Raise
raise-requires-in-Weak-Raise c = can_raise (node_change Weak) c.args.self.now.weak c.requires.0 c.args.item c.requires.1.weak c.requires.2

pub lower-requires-in-Weak-Lower : goal.lower-requires-in-Weak-Lower
lower-requires-in-Weak-Lower c = can_lower (node_change Weak) c.args.self.now.weak c.requires.0 c.args.item c.requires.1.weak c.requires.2

pub overflow_add-self : goal.overflow_add-self
overflow_add-self c =
    let small = (dues_small c.args.self.now c.args.item c.requires).0 in
    omega (arith, ints)

pub overflow_sub-self : goal.overflow_sub-self
overflow_sub-self c =
    let small = (dues_small c.args.self.now c.args.item c.requires).0 in
    omega (arith, ints)

pub overflow_add-self-in-Weak-Raise : goal.overflow_add-self-in-Weak-Raise
overflow_add-self-in-Weak-Raise c =
    let small = (dues_small c.args.self.now c.args.item c.requires).1 in
    omega (arith, ints)

pub overflow_sub-self-in-Weak-Done : goal.overflow_sub-self-in-Weak-Done
overflow_sub-self-in-Weak-Done c =
    let small = (dues_small c.args.self.now c.args.item c.requires).1 in
    omega (arith, ints)

pub returns-in-Strong-Raise : goal.returns-in-Strong-Raise
returns-in-Strong-Raise c =
    let small = (dues_small c.args.self.now c.args.item c.requires).0 in
    node_more _ _ c.args.item (rw (c.in-Strong-Raise.is-0, c.in-Strong-Raise.is-1) c.raise.ensures) (rw c.in-Strong-Raise.is-0 (kept_counts _))
    (rw (c.in-Strong-Raise.is-0, c.in-Strong-Raise.is-1) (omega (arith, ints))) (rw c.in-Strong-Raise.is-0 (omega (arith, ints)))

pub returns-in-Strong-Lower : goal.returns-in-Strong-Lower
returns-in-Strong-Lower c =
    node_more _ _ c.args.item (rw (c.in-Strong-Lower.is-0, c.in-Strong-Lower.is-1) c.lower.ensures) (rw c.in-Strong-Lower.is-0 (kept_counts _))
    (rw (c.in-Strong-Lower.is-0, c.in-Strong-Lower.is-1) (omega (arith, ints))) (rw c.in-Strong-Lower.is-0 (omega (arith, ints)))

pub returns-in-Strong-Done : goal.returns-in-Strong-Done
returns-in-Strong-Done c =
    let small = (dues_small c.args.self.now c.args.item c.requires).0 in
    node_more _ _ c.args.item (rw (c.in-Strong-Done.is-0, c.in-Strong-Done.is-1) (kept_counts _)) (rw c.in-Strong-Done.is-0 (kept_counts _))
    (rw (c.in-Strong-Done.is-0, c.in-Strong-Done.is-1) (omega (arith, ints))) (rw c.in-Strong-Done.is-0 (omega (arith, ints)))

pub returns-in-Weak-Raise : goal.returns-in-Weak-Raise
returns-in-Weak-Raise c =
    let small = (dues_small c.args.self.now c.args.item c.requires).1 in
    node_more _ _ c.args.item (rw c.in-Weak-Raise.is-0 (kept_counts _)) (rw (c.in-Weak-Raise.is-0, c.in-Weak-Raise.is-1) c.raise-in-Weak-Raise.ensures)
    (rw c.in-Weak-Raise.is-0 (omega (arith, ints))) (rw (c.in-Weak-Raise.is-0, c.in-Weak-Raise.is-1) (omega (arith, ints)))

pub returns-in-Weak-Lower : goal.returns-in-Weak-Lower
returns-in-Weak-Lower c =
    node_more _ _ c.args.item (rw c.in-Weak-Lower.is-0 (kept_counts _)) (rw (c.in-Weak-Lower.is-0, c.in-Weak-Lower.is-1) c.lower-in-Weak-Lower.ensures)
    (rw c.in-Weak-Lower.is-0 (omega (arith, ints))) (rw (c.in-Weak-Lower.is-0, c.in-Weak-Lower.is-1) (omega (arith, ints)))

pub returns-in-Weak-Done : goal.returns-in-Weak-Done
returns-in-Weak-Done c =
    let small = (dues_small c.args.self.now c.args.item c.requires).1 in
    node_more _ _ c.args.item (rw c.in-Weak-Done.is-0 (kept_counts _)) (rw (c.in-Weak-Done.is-0, c.in-Weak-Done.is-1) (kept_counts _))
    (rw c.in-Weak-Done.is-0 (omega (arith, ints))) (rw (c.in-Weak-Done.is-0, c.in-Weak-Done.is-1) (omega (arith, ints)))
