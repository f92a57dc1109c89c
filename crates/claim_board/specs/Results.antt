-- Results in the order of their jobs.
use Rattle.std.specs.Prelude.{◌≡◌, ℕ, ◌<◌, ◌≤◌, List, map, length, Option, Some, None, slice_get, All}
use Rattle.claim_board.specs.Running.{one_at, total}

-- how often x is in the list
abbrev pub times : ℕ → List ℕ → ℕ
times x list = total (one_at x) list

-- the list has a result of each of n jobs, and of no other
pub record IsWhole {X : Type 0} (gives : ℕ → X → Type 0) (n : ℕ) (list : List (ℕ × X)) : Type 0 where
  pub within : All (λ p. p.0 < n) list
  pub whole : (i : ℕ) → i < n → 0 < times i (map (λ p. p.0) list)
  pub given : All (λ p. gives p.0 p.1) list

-- n places that are being filled: a filled place has a result of its job, and for each empty place the list has a
-- result of its job
pub record AreFilling {X : Type 0} (gives : ℕ → X → Type 0) (n : ℕ) (list : List (ℕ × X)) (places : List (Option X))
    : Type 0 where
  pub long : length places ≡ n
  pub right : (i : ℕ) (x : X) → slice_get places i ≡ Some (Some x) → gives i x
  pub open_yet : (i : ℕ) → slice_get places i ≡ Some None → 0 < times i (map (λ p. p.0) list)
  pub within : All (λ p. p.0 < n) list
  pub given : All (λ p. gives p.0 p.1) list

-- n places that are being emptied: the places from i on have a result of their job, and the list has the results of the
-- jobs below i
pub record AreTaken {X : Type 0} (gives : ℕ → X → Type 0) (n i : ℕ) (places : List (Option X)) (list : List X)
    : Type 0 where
  pub long : length places ≡ n
  pub short : length list ≡ i
  pub taken : (k : ℕ) → i ≤ k → k < n → (x : X) × (slice_get places k ≡ Some (Some x)) × gives k x
  pub given : (k : ℕ) (x : X) → slice_get list k ≡ Some x → gives k x

-- a result of each of n jobs, in the order of the jobs
pub record AreInOrder {X : Type 0} (gives : ℕ → X → Type 0) (n : ℕ) (results : List X) : Type 0 where
  pub count : length results ≡ n
  pub each : (i : ℕ) (x : X) → slice_get results i ≡ Some x → gives i x
