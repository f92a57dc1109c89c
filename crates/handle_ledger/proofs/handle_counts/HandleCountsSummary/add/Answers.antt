use Rattle.event_core.specs.declared.strength.Strength.TheVariants.{Strong, Weak}
use Rattle.handle_ledger.proofs.Counting.{can_raise, can_lower}
use Rattle.handle_ledger.proofs.HandleLaws.{handle_more}
use Rattle.handle_ledger.proofs.handle_counts.HandleCountsSummary.add.Goals as goal
use Rattle.handle_ledger.specs.Handles.{handle_change}
use Rattle.summary_law.proofs.CountLaws.{kept_counts}

pub raise-requires : goal.raise-requires
raise-requires c = can_raise (handle_change Strong) c.args.self.now.strong c.requires.0 c.args.item c.requires.1.strong c.requires.2

pub lower-requires : goal.lower-requires
lower-requires c = can_lower (handle_change Strong) c.args.self.now.strong c.requires.0 c.args.item c.requires.1.strong c.requires.2

pub raise-requires-in-Weak-Raise : goal.raise-requires-in-Weak-Raise
raise-requires-in-Weak-Raise c = can_raise (handle_change Weak) c.args.self.now.weak c.requires.0 c.args.item c.requires.1.weak c.requires.2

pub lower-requires-in-Weak-Lower : goal.lower-requires-in-Weak-Lower
lower-requires-in-Weak-Lower c = can_lower (handle_change Weak) c.args.self.now.weak c.requires.0 c.args.item c.requires.1.weak c.requires.2

pub returns-in-Strong-Raise : goal.returns-in-Strong-Raise
returns-in-Strong-Raise c =
    handle_more _ _ c.args.item (rw (c.in-Strong-Raise.is-0, c.in-Strong-Raise.is-1) c.raise.ensures) (rw c.in-Strong-Raise.is-0 (kept_counts _))

pub returns-in-Strong-Lower : goal.returns-in-Strong-Lower
returns-in-Strong-Lower c =
    handle_more _ _ c.args.item (rw (c.in-Strong-Lower.is-0, c.in-Strong-Lower.is-1) c.lower.ensures) (rw c.in-Strong-Lower.is-0 (kept_counts _))

pub returns-in-Weak-Raise : goal.returns-in-Weak-Raise
returns-in-Weak-Raise c =
    handle_more _ _ c.args.item (rw c.in-Weak-Raise.is-0 (kept_counts _)) (rw (c.in-Weak-Raise.is-0, c.in-Weak-Raise.is-1) c.raise-in-Weak-Raise.ensures)

pub returns-in-Weak-Lower : goal.returns-in-Weak-Lower
returns-in-Weak-Lower c =
    handle_more _ _ c.args.item (rw c.in-Weak-Lower.is-0 (kept_counts _)) (rw (c.in-Weak-Lower.is-0, c.in-Weak-Lower.is-1) c.lower-in-Weak-Lower.ensures)
