-- Lists that are read from other lists.
use Rattle.std.proofs.Common.{◌≡◌, List, [], ◌∷◌, ◌++◌, Option, Some, None, filter_map, refl, ap, ◌∙◌}
use Rattle.std.specs.List.{cons_option}

-- if what is read of a list has an element in its midst, so has the list
pub record ReadSplit {X Y : Type 0} (read : X → Option Y) (xs : List X) (front : List Y) (y : Y) (back : List Y) : Type 0 where
  pub before : List X
  pub here : X
  pub after : List X
  pub split : xs ≡ before ++ here ∷ after
  pub gives : read here ≡ Some y
  pub front_is : filter_map read before ≡ front
  pub back_is : filter_map read after ≡ back

module _ {X Y : Type 0} (read : X → Option Y) where
  passed : (x : X) (xs : List X) (front : List Y) (y : Y) (back : List Y) → read x ≡ None → ReadSplit read xs front y back
      → ReadSplit read (x ∷ xs) front y back
  passed x xs front y back is r = record {
    before = x ∷ r.before;
    here = r.here;
    after = r.after;
    split = ap (λ t. x ∷ t) r.split;
    gives = r.gives;
    front_is = ap (λ o. cons_option o (filter_map read r.before)) is ∙ r.front_is;
    back_is = r.back_is;
  }

  kept : (x : X) (xs : List X) (f : Y) (front : List Y) (y : Y) (back : List Y) → read x ≡ Some f → ReadSplit read xs front y back
      → ReadSplit read (x ∷ xs) (f ∷ front) y back
  kept x xs f front y back is r = record {
    before = x ∷ r.before;
    here = r.here;
    after = r.after;
    split = ap (λ t. x ∷ t) r.split;
    gives = r.gives;
    front_is = ap (λ o. cons_option o (filter_map read r.before)) is ∙ ap (λ t. f ∷ t) r.front_is;
    back_is = r.back_is;
  }

  pub read_split : (xs : List X) (front : List Y) (y : Y) (back : List Y) → filter_map read xs ≡ front ++ y ∷ back → ReadSplit read xs front y back
  read_split [] [] y back e = let no : ⊥ = cc in absurd no
  read_split [] (f ∷ front) y back e = let no : ⊥ = cc in absurd no
  read_split (x ∷ xs) [] y back e =
      elim (read x) as (λ o. (read x ≡ o) → cons_option o (filter_map read xs) ≡ y ∷ back → ReadSplit read (x ∷ xs) [] y back) [
        | None ↦ λ is e. passed x xs [] y back is (read_split xs [] y back e)
        | Some z ↦ λ is e.
            let same : z ≡ y = cc in
            let rest : filter_map read xs ≡ back = cc in
            record { before = []; here = x; after = xs; split = refl; gives = is ∙ ap (λ t. Some t) same; front_is = refl; back_is = rest }
      ] refl e
  read_split (x ∷ xs) (f ∷ front) y back e =
      elim (read x) as (λ o. (read x ≡ o) → cons_option o (filter_map read xs) ≡ f ∷ (front ++ y ∷ back) → ReadSplit read (x ∷ xs) (f ∷ front) y back) [
        | None ↦ λ is e. passed x xs (f ∷ front) y back is (read_split xs (f ∷ front) y back e)
        | Some z ↦ λ is e.
            let same : z ≡ f = cc in
            let rest : filter_map read xs ≡ front ++ y ∷ back = cc in
            kept x xs f front y back (is ∙ ap (λ t. Some t) same) (read_split xs front y back rest)
      ] refl e
