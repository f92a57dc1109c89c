-- Elements of lists.
use Rattle.std.proofs.Common.{◌≡◌, ◌⊎◌, ⊎_elim, inl, inr, ℕ, zero, suc, Bool, true, false, cond, Option, Some, None, List, [], ◌∷◌, ◌++◌, map, slice_get, length, refl, sym, ap, subst, ◌∙◌}
use Rattle.std.specs.List.{Contains, filter}
use Rattle.std.specs.Option.{option_map}
use Rattle.std.proofs.lemmas.Option.{slice_get-map, slice_get_read}
use Rattle.listing_tables.specs.Certainty.{IsIn}

module _ {X : Type 0} where
  none_some : (o : Option X) (x : X) → o ≡ None → o ≡ Some x → ⊥
  none_some o x a b = cc

  same_some : (y x : X) → Some y ≡ Some x → y ≡ x
  same_some y x h = cc

  pub in_rest : (y x : X) (xs : List X) → IsIn xs x → IsIn (y ∷ xs) x
  in_rest y x xs h = (suc h.0, h.1)

  in_left_at : (xs ys : List X) (x : X) (i : ℕ) → slice_get xs i ≡ Some x → slice_get (xs ++ ys) i ≡ Some x
  in_left_at [] ys x i h = absurd (none_some None x refl h)
  in_left_at (y ∷ xs) ys x zero h = h
  in_left_at (y ∷ xs) ys x (suc i) h = in_left_at xs ys x i h

  pub in_left : (xs ys : List X) (x : X) → IsIn xs x → IsIn (xs ++ ys) x
  in_left xs ys x h = (h.0, in_left_at xs ys x h.0 h.1)

  pub in_right : (xs ys : List X) (x : X) → IsIn ys x → IsIn (xs ++ ys) x
  in_right [] ys x h = h
  in_right (y ∷ xs) ys x h = in_rest y x (xs ++ ys) (in_right xs ys x h)

  push_cases_at : (xs : List X) (y x : X) (i : ℕ) → slice_get (xs ++ y ∷ []) i ≡ Some x → IsIn xs x ⊎ (x ≡ y)
  push_cases_at [] y x zero h = inr (sym (same_some y x h))
  push_cases_at [] y x (suc i) h = absurd (none_some None x refl h)
  push_cases_at (z ∷ xs) y x zero h = inl (zero, h)
  push_cases_at (z ∷ xs) y x (suc i) h =
      ⊎_elim (λ (r : IsIn xs x). inl (in_rest z x xs r)) (λ (e : x ≡ y). inr e) (push_cases_at xs y x i h)

  pub push_cases : (xs : List X) (y x : X) → IsIn (xs ++ y ∷ []) x → IsIn xs x ⊎ (x ≡ y)
  push_cases xs y x h = push_cases_at xs y x h.0 h.1

  pub in_push : (xs : List X) (y : X) → IsIn (xs ++ y ∷ []) y
  in_push xs y = in_right xs (y ∷ []) y (zero, refl)

  pub from_contains : (xs : List X) (x : X) → Contains xs x → IsIn xs x
  from_contains xs x h = (h.0, slice_get_read xs (length xs) h.0 x refl h.1 (sym h.2))

  kept : (b : Bool) (y x : X) (xs : List X) → IsIn xs x → IsIn (cond b (y ∷ xs) xs) x
  kept true y x xs h = in_rest y x xs h
  kept false y x xs h = h

  first_kept : (b : Bool) (y : X) (xs : List X) → b ≡ true → IsIn (cond b (y ∷ xs) xs) y
  first_kept true y xs e = (zero, refl)
  first_kept false y xs e = cc

  in_filter_at : (test : X → Bool) (xs : List X) (x : X) (i : ℕ) → slice_get xs i ≡ Some x → test x ≡ true → IsIn (filter test xs) x
  in_filter_at test [] x i h t = absurd (none_some None x refl h)
  in_filter_at test (y ∷ xs) x zero h t =
      subst (λ (z : X). IsIn (cond (test y) (y ∷ filter test xs) (filter test xs)) z) (same_some y x h)
      (first_kept (test y) y (filter test xs) (ap test (same_some y x h) ∙ t))
  in_filter_at test (y ∷ xs) x (suc i) h t = kept (test y) y x (filter test xs) (in_filter_at test xs x i h t)

  pub in_filter : (test : X → Bool) (xs : List X) (x : X) → IsIn xs x → test x ≡ true → IsIn (filter test xs) x
  in_filter test xs x h t = in_filter_at test xs x h.0 h.1 t

pub in_map : {X Y : Type 0} (f : X → Y) (xs : List X) (x : X) → IsIn xs x → IsIn (map f xs) (f x)
in_map f xs x h = (h.0, slice_get-map f xs h.0 ∙ ap (option_map f) h.1)
