use Rattle.std.proofs.Common.{ℕ, refl, subst, IsTrue}
use Rattle.std.specs.BTreeSet.{contains}
use Rattle.listing_tables.specs.Waiting.{entry_cmp}
use Rattle.listing_tables.proofs.waiting.Waiting.first_doubted.Goals as goal

pub returns : goal.returns
returns c =
    let first = rw c.in_ok-at.ensures.steps at (c.range.ensures.in_range tt).1 in
    let at = c.in_ok-at.field-0.now in
    (refl, subst (λ (key : ℕ). IsTrue (contains entry_cmp c.args.self.now.doubted (key, at.1, at.2))) c.if-at-key.false first.1)
