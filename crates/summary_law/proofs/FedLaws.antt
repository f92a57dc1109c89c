-- What is picked from the things of a list that one more thing or another list follows.
use Rattle.std.proofs.Common.{◌≡◌, List, [], ◌∷◌, ◌++◌, Option, Some, None, refl, sym, ap, subst, ◌∙◌, append-nil, filter_map}
use Rattle.std.proofs.lemmas.List.Elements.{filter_map-append}
use Rattle.summary_law.specs.Fed.{SumsPicked}
use Rattle.summary_law.specs.Summary.{CanAdd, Adds, CanJoin, Joins}

module _ {E I : Type 0} (picks : E → Option I) where
  pub after_some : (things : List E) (thing : E) (item : I) → picks thing ≡ Some item → filter_map picks (things ++ thing ∷ []) ≡ filter_map picks things ++ item ∷ []
  after_some things thing item is =
      let one : filter_map picks (thing ∷ []) ≡ item ∷ [] = rw is refl in
      filter_map-append picks things (thing ∷ []) ∙ ap (λ (t : List I). filter_map picks things ++ t) one

  pub after_none : (things : List E) (thing : E) → picks thing ≡ None → filter_map picks (things ++ thing ∷ []) ≡ filter_map picks things
  after_none things thing is =
      let none : filter_map picks (thing ∷ []) ≡ [] = rw is refl in
      filter_map-append picks things (thing ∷ []) ∙ ap (λ (t : List I). filter_map picks things ++ t) none ∙ append-nil (filter_map picks things)

module _ {S E I : Type 0} (picks : E → Option I) (Sums : S → List I → Type 0) (Fits : List I → Type 0) where
  -- the lists of things from which items are picked that fit
  abbrev FitsPicked : List E → Type 0
  FitsPicked things = Fits (filter_map picks things)

  -- if the thing can be added, so can the item that is picked from it, and then the thing has been added
  pub can_add_picked : (old : S) (thing : E) (item : I) → picks thing ≡ Some item → CanAdd (SumsPicked picks Sums) FitsPicked old thing → CanAdd Sums Fits old item
  can_add_picked old thing item is can = (filter_map picks can.0, can.1, subst Fits (after_some picks can.0 thing item is) can.2)

  pub picked_added : (old new : S) (thing : E) (item : I) → picks thing ≡ Some item → Adds Sums Fits old item new
      → Adds (SumsPicked picks Sums) FitsPicked old thing new
  picked_added old new thing item is adds things sums fits =
      let after = after_some picks things thing item is in
      subst (Sums new) (sym after) (adds (filter_map picks things) sums (subst Fits after fits))

  -- a thing from which nothing is picked changes nothing
  pub nothing_added : (old : S) (thing : E) → picks thing ≡ None → Adds (SumsPicked picks Sums) FitsPicked old thing old
  nothing_added old thing is things sums fits = subst (Sums old) (sym (after_none picks things thing is)) sums

  -- if two lists of things can be joined, so can what is picked from them, and then the things have been joined
  pub can_join_picked : (earlier later : S) → CanJoin (SumsPicked picks Sums) FitsPicked earlier later → CanJoin Sums Fits earlier later
  can_join_picked earlier later can =
      (filter_map picks can.0, filter_map picks can.1, can.2, can.3, subst Fits (filter_map-append picks can.0 can.1) can.4)

  pub picked_joined : (earlier later joined : S) → Joins Sums Fits earlier later joined → Joins (SumsPicked picks Sums) FitsPicked earlier later joined
  picked_joined earlier later joined joins first second sums others fits =
      let both = filter_map-append picks first second in
      subst (Sums joined) (sym both) (joins (filter_map picks first) (filter_map picks second) sums others (subst Fits both fits))
