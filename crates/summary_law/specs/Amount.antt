-- The number and the sum of a list of weights.
use Rattle.std.specs.Prelude.{◌≡◌, ℕ, ◌≤◌, ◌*◌, ◌-◌, ◌^◌, List, length, sum}
use Rattle.summary_law.specs.declared.amount.Amount.{Amount}

-- the amount has the number of the weights and their sum, each weight being a number of 64 bits
pub record IsAmount (amount : Amount) (weights : List ℕ) : Type 0 where
  pub count : amount.count ≡ length weights
  pub sum : amount.sum ≡ sum weights
  pub small : amount.sum ≤ length weights * (2 ^ 64 - 1)
