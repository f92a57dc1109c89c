-- Lists in which one element was set, or which got one more element, read by `slice_get`.
use Rattle.std.proofs.Common.{◌≡◌, ℕ, zero, suc, ◌≢◌, ◌⊎◌, List, [], ◌∷◌, ◌++◌, length, set, refl, ap, inl, inr, ⊎_elim, arith, replicate, ◌<◌, Some}
use Rattle.std.specs.List.{slice_get}

module _ {A : Type 0} where
  pub get_set : (l : List A) (i j : ℕ) (a b : A) → slice_get (set l i a) j ≡ Some b → ((j ≡ i) × (a ≡ b)) ⊎ ((j ≢ i) × (slice_get l j ≡ Some b))
  get_set [] i j a b e = absurd (cc)
  get_set (x ∷ xs) zero zero a b e = inl (refl, cc)
  get_set (x ∷ xs) zero (suc j) a b e = inr ((λ h. omega arith), e)
  get_set (x ∷ xs) (suc i) zero a b e = inr ((λ h. omega arith), e)
  get_set (x ∷ xs) (suc i) (suc j) a b e = ⊎_elim (λ t. inl (ap suc t.0, t.1)) (λ t. let n = t.0 in inr ((λ h. n (omega arith)), t.1)) (get_set xs i j a b e)

  pub get_set_else : (l : List A) (i j : ℕ) (a : A) → j ≢ i → slice_get (set l i a) j ≡ slice_get l j
  get_set_else [] i j a n = refl
  get_set_else (x ∷ xs) zero zero a n = absurd (n refl)
  get_set_else (x ∷ xs) zero (suc j) a n = refl
  get_set_else (x ∷ xs) (suc i) zero a n = refl
  get_set_else (x ∷ xs) (suc i) (suc j) a n = get_set_else xs i j a (λ e. n (ap suc e))

  pub get_snoc : (l : List A) (a b : A) (j : ℕ) → slice_get (l ++ a ∷ []) j ≡ Some b → (slice_get l j ≡ Some b) ⊎ ((j ≡ length l) × (a ≡ b))
  get_snoc [] a b zero e = inr (refl, cc)
  get_snoc [] a b (suc j) e = absurd (cc)
  get_snoc (x ∷ xs) a b zero e = inl e
  get_snoc (x ∷ xs) a b (suc j) e = ⊎_elim (λ t. inl t) (λ t. inr (ap suc t.0, t.1)) (get_snoc xs a b j e)

  pub get_replicate : (n : ℕ) (a : A) (i : ℕ) → i < n → slice_get (replicate n a) i ≡ Some a
  get_replicate zero a i lt = absurd (omega arith)
  get_replicate (suc n) a zero lt = refl
  get_replicate (suc n) a (suc i) lt = get_replicate n a i (omega arith)

  pub got_replicate : (n : ℕ) (a : A) (i : ℕ) (b : A) → slice_get (replicate n a) i ≡ Some b → a ≡ b
  got_replicate zero a i b e = absurd (cc)
  got_replicate (suc n) a zero b e = cc
  got_replicate (suc n) a (suc i) b e = got_replicate n a i b e
