-- Steps that are made for all messages, one after another.
use Rattle.std.proofs.Common.{◌≡◌, ◌≤◌, ◌+◌, ℕ, suc, add-one, subst, arith}
use Rattle.listing_tables.specs.Turns.{MakesEach}
use Rattle.listing_tables.specs.declared.pairs.Pairing.{Pairing}

module _ (step : Pairing → ℕ → Pairing → Type 0) (old : Pairing) where
  -- one step more
  pub each_more : (between new : Pairing) (count : ℕ) → MakesEach step old between count → step between count new
      → MakesEach step old new (count + 1)
  each_more between new count before one =
      let it : MakesEach step old new (suc count) = (between, before, one) in
      rw add-one it

  -- all of them
  pub each_all : (new : Pairing) (count wanted : ℕ) → wanted ≤ count → count ≤ wanted → MakesEach step old new count
      → MakesEach step old new wanted
  each_all new count wanted past upto each =
      let same : count ≡ wanted = omega (arith, past, upto) in
      subst (MakesEach step old new) same each
