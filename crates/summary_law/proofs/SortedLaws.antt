-- A list as its different elements in rising order, and rows that are made of these.
use Rattle.std.proofs.Common.{◌≡◌, ◌≢◌, ◌⊎◌, inl, inr, Bool, true, false, cond, Some, None, List, [], ◌∷◌, map, refl, sym, ap, ap₂, subst, ◌∙◌}
use Rattle.std.specs.BTreeMap.{BTreeMap, IsOrdered}
use Rattle.std.specs.Cmp.{IsTotalOrder, both_ways}
use Rattle.std.specs.List.{cons_option, list_any}
use Rattle.std.specs.Map.{keys_of}
use Rattle.std.specs.Prelude.{All}
use Rattle.std.specs.List.Sorted.{IsStrictlySortedBy}
use Rattle.std.specs.Ordering.{eq_by_cmp, match_ordering, ordering_reverse}
use Rattle.std.specs.declared.cmp.Ordering.{Ordering}
use Rattle.std.specs.declared.cmp.Ordering.TheVariants.{Less, Equal, Greater}
use Rattle.std.proofs.lemmas.Cmp.{eq_by_cmp_equiv}
use Rattle.std.proofs.lemmas.List.Elements.{All-contains, All-from_recursion, All-head, All-tail, recursion_from_All}
use Rattle.std.proofs.lemmas.Map.Keys.{sorted_head, sorted_tail}
use Rattle.std.proofs.lemmas.Map.Views.{Contains-from_any, tells_apart}
use Rattle.summary_law.specs.ByKey.{SumsByKey, items_of}
use Rattle.summary_law.specs.Sorted.{put, sorted}
use Rattle.summary_law.proofs.GatherLaws.{all_in, in_any, key_among, map_each, map_none, map_parts}
use Rattle.summary_law.proofs.Members.{In, InOrder, contained, in-map, in_list, one_order}

module _ {X : Type 0} (cmp : X → X → Ordering) where
  -- each is below every later one
  abbrev pub Ascends : List X → Type 0
  Ascends xs = InOrder (λ x y. cmp x y ≡ Less) xs

  in_put : (x z : X) (ys : List X) → In z (put cmp x ys) → (z ≡ x) ⊎ In z ys
  in_put x z [] here = here
  in_put x z (y ∷ ys) here =
      elim (cmp x y) as (λ o. In z (match_ordering o (x ∷ y ∷ ys) (y ∷ ys) (y ∷ put cmp x ys)) → (z ≡ x) ⊎ In z (y ∷ ys)) [
        | Less ↦ λ here. here
        | Equal ↦ λ here. inr here
        | Greater ↦ λ here. elim here [
          | inl is ↦ inr (inl is)
          | inr there ↦ elim (in_put x z ys there) [ inl is ↦ inl is | inr later ↦ inr (inr later) ]
        ]
      ] here

  put_in : (x z : X) (ys : List X) → In z ys → In z (put cmp x ys)
  put_in x z [] here = absurd here
  put_in x z (y ∷ ys) here =
      elim (cmp x y) as (λ o. In z (match_ordering o (x ∷ y ∷ ys) (y ∷ ys) (y ∷ put cmp x ys))) [
        | Less ↦ inr here
        | Equal ↦ here
        | Greater ↦ elim here [ inl is ↦ inl is | inr there ↦ inr (put_in x z ys there) ]
      ]

  put_here : (x : X) (ys : List X) → ((y : X) → In y ys → cmp x y ≡ Equal → x ≡ y) → In x (put cmp x ys)
  put_here x [] exact = inl refl
  put_here x (y ∷ ys) exact =
      elim (cmp x y) as (λ o. (cmp x y ≡ o) → In x (match_ordering o (x ∷ y ∷ ys) (y ∷ ys) (y ∷ put cmp x ys))) [
        | Less ↦ λ is. inl refl
        | Equal ↦ λ is. inl (exact y (inl refl) is)
        | Greater ↦ λ is. inr (put_here x ys (λ z there. exact z (inr there)))
      ] refl

  pub in_sorted : (xs : List X) (x : X) → In x (sorted cmp xs) → In x xs
  in_sorted [] x here = here
  in_sorted (y ∷ ys) x here = elim (in_put y x (sorted cmp ys) here) [ inl is ↦ inl is | inr there ↦ inr (in_sorted ys x there) ]

  pub sorted_in : (xs : List X) → ((x y : X) → In x xs → In y xs → cmp x y ≡ Equal → x ≡ y) → (x : X) → In x xs → In x (sorted cmp xs)
  sorted_in [] exact x here = here
  sorted_in (y ∷ ys) exact x (inl is) =
      subst (λ (w : X). In w (put cmp y (sorted cmp ys))) (sym is)
      (put_here y (sorted cmp ys) (λ z there. exact y z (inl refl) (inr (in_sorted ys z there))))
  sorted_in (y ∷ ys) exact x (inr there) = put_in y x (sorted cmp ys) (sorted_in ys (λ a b at_a at_b. exact a b (inr at_a) (inr at_b)) x there)

strictly : {X : Type 0} (cmp : X → X → Ordering) (ys : List X) → Ascends cmp ys → IsStrictlySortedBy cmp ys
unfolding IsStrictlySortedBy
strictly cmp [] up = tt
strictly cmp (y ∷ ys) up =
    (recursion_from_All (λ z. cmp y z ≡ Less) ys (all_in (λ z. cmp y z ≡ Less) ys up.0), strictly cmp ys up.1)

module _ {X : Type 0} (cmp : X → X → Ordering) (laws : IsTotalOrder cmp) where
  put_ascends : (x : X) (ys : List X) → Ascends cmp ys → Ascends cmp (put cmp x ys)
  put_ascends x [] up = (λ z none. absurd none, tt)
  put_ascends x (y ∷ ys) up =
      elim (cmp x y) as (λ o. (cmp x y ≡ o) → Ascends cmp (match_ordering o (x ∷ y ∷ ys) (y ∷ ys) (y ∷ put cmp x ys))) [
        | Less ↦ λ is. (
          λ z there. elim there [ inl same ↦ ap (cmp x) same ∙ is | inr later ↦ laws.trans x y z is (up.0 z later) ],
          up,
        )
        | Equal ↦ λ is. up
        | Greater ↦ λ is. (
          λ z there. elim (in_put cmp x z ys there) [
            | inl same ↦ ap (cmp y) same ∙ laws.antisymm y x ∙ ap ordering_reverse is
            | inr later ↦ up.0 z later
          ],
          put_ascends x ys up.1,
        )
      ] refl

  pub sorted_ascends : (xs : List X) → Ascends cmp (sorted cmp xs)
  sorted_ascends [] = tt
  sorted_ascends (x ∷ xs) = put_ascends x (sorted cmp xs) (sorted_ascends xs)

  pub strictly_sorted : (xs : List X) → IsStrictlySortedBy cmp (sorted cmp xs)
  strictly_sorted xs = strictly cmp (sorted cmp xs) (sorted_ascends xs)

-- ---- two rising lists with the same elements

module _ {X : Type 0} (cmp : X → X → Ordering) where
  pub ascends : (xs : List X) → IsStrictlySortedBy cmp xs → Ascends cmp xs
  ascends [] up = tt
  ascends (x ∷ xs) up =
      let above = All-from_recursion (λ y. cmp x y ≡ Less) xs (sorted_head cmp x xs up) in
      (λ y there. All-contains (λ y. cmp x y ≡ Less) xs y above (contained xs y there), ascends xs (sorted_tail cmp x xs up))

module _ {X : Type 0} (cmp : X → X → Ordering) (laws : IsTotalOrder cmp) where
  not_both : (x y : X) → cmp x y ≡ Less → cmp y x ≡ Less → ⊥
  not_both x y below above =
      let turned : cmp x y ≡ ordering_reverse Less = laws.antisymm x y ∙ ap ordering_reverse above in
      cc

  pub one_sorted : (xs ys : List X) → Ascends cmp xs → Ascends cmp ys → ((x : X) → In x xs → In x ys) → ((x : X) → In x ys → In x xs) → xs ≡ ys
  one_sorted xs ys up also to back = one_order (λ x y. cmp x y ≡ Less) not_both xs ys up also to back

-- ---- a row for each key

made_of : {K R : Type 0} (row_key : R → K) (make : K → R) (rows : List R) → ((row : R) → In row rows → row ≡ make (row_key row))
    → rows ≡ map make (map row_key rows)
made_of row_key make [] each = refl
made_of {K} {R} row_key make (row ∷ rows) each =
    ap₂ (λ (r : R) (rs : List R). r ∷ rs) (each row (inl refl)) (made_of row_key make rows (λ r there. each r (inr there)))

-- rows in rising order of their keys, one made of each of these keys and no others, are the rows made of the keys
pub rows_are : {K R : Type 0} (cmp : K → K → Ordering) → IsTotalOrder cmp → ((x y : K) → cmp x y ≡ Equal → x ≡ y) → (row_key : R → K) (make : K → R)
    (keys : List K) (rows : List R) → IsStrictlySortedBy cmp (map row_key rows) → ((row : R) → In row rows → row ≡ make (row_key row))
    → ((key : K) → In key (map row_key rows) → In key keys) → ((key : K) → In key keys → In key (map row_key rows)) → rows ≡ map make (sorted cmp keys)
rows_are cmp laws exact row_key make keys rows up each sound whole =
    made_of row_key make rows each
    ∙ ap (map make)
    (one_sorted cmp laws (map row_key rows) (sorted cmp keys) (ascends cmp (map row_key rows) up) (sorted_ascends cmp laws keys)
    (λ key here. sorted_in cmp keys (λ x y at_x at_y same. exact x y same) key (sound key here))
    (λ key here. whole key (in_sorted cmp keys key here)))

-- ---- a row for each key of a map

module _ {K : Type 0} (cmp : K → K → Ordering) (exact : (x y : K) → cmp x y ≡ Equal → x ≡ y) where
  -- a key that has items is the key of a pair
  pub has_pair : {I : Type 0} (key : K) (pairs : List (K × I)) → items_of (eq_by_cmp cmp) key pairs ≢ [] → In key (keys_of pairs)
  has_pair key [] some = absurd (some refl)
  has_pair key (e ∷ pairs) some =
      elim (eq_by_cmp cmp key e.0) as (λ b. (eq_by_cmp cmp key e.0 ≡ b) → cons_option (cond b (Some e.1) None) (items_of (eq_by_cmp cmp) key pairs) ≢ []
      → In key (keys_of (e ∷ pairs))) [
        | true ↦ λ same some. inl (tells_apart exact key e.0 same)
        | false ↦ λ other some. inr (has_pair key pairs some)
      ] refl some

  pub found_in : (key : K) (keys : List K) → list_any (eq_by_cmp cmp key) keys ≡ true → In key keys
  found_in key keys found = in_list keys key (Contains-from_any (tells_apart exact) key keys found)

  module _ (laws : IsTotalOrder cmp) where
    in_found : (key : K) (keys : List K) → In key keys → list_any (eq_by_cmp cmp key) keys ≡ true
    in_found key keys there = let equal = eq_by_cmp_equiv laws in in_any (eq_by_cmp cmp key) keys key there (equal.refl key)

    -- a sorted list has the elements of the list
    pub sorted_any : (key : K) (keys : List K) → list_any (eq_by_cmp cmp key) (sorted cmp keys) ≡ list_any (eq_by_cmp cmp key) keys
    sorted_any key keys =
        both_ways (list_any (eq_by_cmp cmp key) (sorted cmp keys)) (list_any (eq_by_cmp cmp key) keys)
        (λ found. in_found key keys (in_sorted cmp keys key (found_in key (sorted cmp keys) found)))
        (λ found. in_found key (sorted cmp keys) (sorted_in cmp keys (λ x y at_x at_y same. exact x y same) key (found_in key keys found)))

    -- rising keys with the elements of a list are the list, sorted
    pub sorted_keys : (keys xs : List K) → IsStrictlySortedBy cmp keys
        → ((key : K) → list_any (eq_by_cmp cmp key) keys ≡ list_any (eq_by_cmp cmp key) xs) → keys ≡ sorted cmp xs
    sorted_keys keys xs up same =
        one_sorted cmp laws keys (sorted cmp xs) (ascends cmp keys up) (sorted_ascends cmp laws xs)
        (λ key there. found_in key (sorted cmp xs) (sorted_any key xs ∙ sym (same key) ∙ in_found key keys there))
        (λ key there. found_in key keys (same key ∙ sym (sorted_any key xs) ∙ in_found key (sorted cmp xs) there))

module _ {K P I : Type 0} (cmp : K → K → Ordering) (laws : IsTotalOrder cmp) (exact : (x y : K) → cmp x y ≡ Equal → x ≡ y) (Sums : P → List I → Type 0)
    (m : BTreeMap K P) (ordered : IsOrdered cmp m) (pairs : List (K × I)) (sums : SumsByKey cmp Sums m pairs) where
  entry_sound : (key : K) → In key (keys_of m.entries) → In key (keys_of pairs)
  entry_sound key there =
      let e = in-map (λ (e : K × P). e.0) m.entries key there in
      let own = All-contains (λ (e : K × P). (items_of (eq_by_cmp cmp) e.0 pairs ≢ []) × Sums e.1 (items_of (eq_by_cmp cmp) e.0 pairs)) m.entries e.0
      (map_parts cmp laws Sums m ordered pairs sums) (contained m.entries e.0 e.1) in
      subst (λ (k : K). In k (keys_of pairs)) (sym e.2) (has_pair cmp exact e.0.0 pairs own.0)

  entry_whole : (key : K) → In key (keys_of pairs) → In key (keys_of m.entries)
  entry_whole key there =
      let e = in-map (λ (e : K × I). e.0) pairs key there in
      subst (λ (k : K). In k (keys_of m.entries)) (sym e.2)
      (found_in cmp exact e.0.0 (keys_of m.entries)
      (ap (λ (test : K → Bool). list_any test (keys_of m.entries)) (λ i k. symm_of e.0.0 k i)
      ∙ key_among (eq_by_cmp_equiv laws) (keys_of m.entries) pairs (map_none cmp laws Sums m ordered pairs sums) e.0 e.1))
    where
      symm_of : (key other : K) → eq_by_cmp cmp key other ≡ eq_by_cmp cmp other key
      symm_of key other = let equal = eq_by_cmp_equiv laws in equal.symm key other

  pub keys_are : keys_of m.entries ≡ sorted cmp (keys_of pairs)
  keys_are =
      one_sorted cmp laws (keys_of m.entries) (sorted cmp (keys_of pairs)) (ascends cmp (keys_of m.entries) ordered)
      (sorted_ascends cmp laws (keys_of pairs))
      (λ key here. sorted_in cmp (keys_of pairs) (λ x y at_x at_y same. exact x y same) key (entry_sound key here))
      (λ key here. entry_whole key (in_sorted cmp (keys_of pairs) key here))

  each_row : {R : Type 0} (make : K → R) (row_of : K × P → R) → ((e : K × P) → Sums e.1 (items_of (eq_by_cmp cmp) e.0 pairs) → row_of e ≡ make e.0)
      → (entries : List (K × P)) → All (λ (e : K × P). Sums e.1 (items_of (eq_by_cmp cmp) e.0 pairs)) entries → map row_of entries ≡ map make (keys_of entries)
  each_row make row_of right [] all = refl
  each_row {R} make row_of right (e ∷ entries) all =
      let P : K × P → Type 0 = λ e. Sums e.1 (items_of (eq_by_cmp cmp) e.0 pairs) in
      ap₂ (λ (r : R) (rs : List R). r ∷ rs) (right e (All-head P e entries all)) (each_row make row_of right entries (All-tail P e entries all))

  -- the rows made of the entries are the rows made of the keys
  pub map_rows : {R : Type 0} (make : K → R) (row_of : K × P → R) → ((e : K × P) → Sums e.1 (items_of (eq_by_cmp cmp) e.0 pairs) → row_of e ≡ make e.0)
      → map row_of m.entries ≡ map make (sorted cmp (keys_of pairs))
  map_rows make row_of right = each_row make row_of right m.entries (map_each cmp laws Sums m ordered pairs sums) ∙ ap (map make) keys_are
