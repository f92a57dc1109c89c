use Rattle.std.proofs.Common.{refl, sym, subst}
use Rattle.event_core.specs.declared.strength.Strength.{Strength}
use Rattle.listing_tables.specs.Generations.{CountsEffect}
use Rattle.listing_tables.specs.declared.generations.Effect.TheVariants.{Takes}
use Rattle.listing_tables.proofs.CountLaws.{counts_strong, counts_weak}
use Rattle.listing_tables.proofs.generations.Generation.count.Goals as goal

pub returns-in_ok-self-in-Strong-clause-counts : goal.returns-in_ok-self-in-Strong-clause-counts
returns-in_ok-self-in-Strong-clause-counts c =
    let old = c.args.self.now in
    let new = record old { strong = c.in_ok-self-in-Strong.field-0 } in
    subst (λ (s : Strength). CountsEffect old (Takes s c.args.change) new) (sym c.in-Strong.is)
    (counts_strong old new c.args.change c.in_ok-self-in-Strong.ensures refl)

pub returns-in_ok-self-in-Weak-clause-counts : goal.returns-in_ok-self-in-Weak-clause-counts
returns-in_ok-self-in-Weak-clause-counts c =
    let old = c.args.self.now in
    let new = record old { weak = c.in_ok-self-in-Weak.field-0 } in
    subst (λ (s : Strength). CountsEffect old (Takes s c.args.change) new) (sym c.in-Weak.is)
    (counts_weak old new c.args.change c.in_ok-self-in-Weak.ensures refl)
