-- What is read by key: gathered key by key and then sorted, it is what is read of the whole list.
use Rattle.std.proofs.Common.{◌≡◌, ◌≢◌, ℕ, ◌⊎◌, inl, inr, Bool, true, false, cond, ◌||◌, List, [], ◌∷◌, ◌++◌, map, Option, Some, None, refl, sym, ap, ap₂, subst, ◌∙◌, ⊎_elim}
use Rattle.std.specs.BTreeMap.{BTreeMap, IsOrdered, get}
use Rattle.std.specs.Cmp.{IsEquivalence, IsTotalOrder}
use Rattle.std.specs.List.{AllByRecursion, IsDistinct, cons_option, flat_map, list_any}
use Rattle.std.specs.List.Sorted.{IsNonDecreasingBy, IsPermutation}
use Rattle.std.specs.Map.{keys_of}
use Rattle.std.specs.Ordering.{eq_by_cmp}
use Rattle.std.specs.Prelude.{All}
use Rattle.std.specs.declared.cmp.Ordering.{Ordering}
use Rattle.std.proofs.lemmas.Bool.{cases_Bool, true≢false}
use Rattle.std.proofs.lemmas.List.{append-nil, map-append}
use Rattle.std.proofs.lemmas.List.Concat.{flat_map-cons}
use Rattle.std.proofs.lemmas.List.Elements.{All-cons, All-head, All-nil, All-tail, All-weaker, filter-append, filter_agree}
use Rattle.std.proofs.lemmas.List.Sorted.{IsPermutation-append, IsPermutation-append_right, IsPermutation-cons, IsPermutation-map, IsPermutation-middle, IsPermutation-refl, IsPermutation-sym, IsPermutation-trans}
use Rattle.std.proofs.lemmas.Map.Keys.{IsDistinct-head, IsDistinct-tail}
use Rattle.std.proofs.lemmas.Map.Made.{is_some-lookup}
use Rattle.std.proofs.lemmas.Map.Views.{All-found}
use Rattle.summary_law.specs.ByKey.{IsOwn, SumsByKey, items_of}
use Rattle.summary_law.specs.Readings.{HasKeyIn, read_each, read_all, with_key, by_key}
use Rattle.summary_law.proofs.ByKeyLaws.{none_own}
use Rattle.summary_law.proofs.Members.{In, Rises, in_place, map-in, rises-map}

-- ---- elements with a key

module _ {K X : Type 0} {eq : K → K → Bool} (laws : IsEquivalence eq) (key : X → K) where
  pub with_key-more : (k : K) (before : List X) (x : X) → with_key eq key k (before ++ x ∷ []) ≡ with_key eq key k before ++ cond (eq k (key x)) (x ∷ []) []
  with_key-more k before x = filter-append (λ y. eq k (key y)) before (x ∷ [])

  -- equal keys have the same elements
  pub with_key-same : (k other : K) → eq k other ≡ true → (xs : List X) → with_key eq key k xs ≡ with_key eq key other xs
  with_key-same k other same xs =
      filter_agree (λ x. eq k (key x)) (λ x. eq other (key x)) (λ x. laws.congr k other (key x) same) xs

-- ---- one more element of one key

nothing : {K Y : Type 0} (keys : List K) → flat_map (λ (k : K). let none : List Y = [] in none) keys ≡ []
nothing [] = refl
nothing {K} {Y} (k ∷ keys) = flat_map-cons (λ (k : K). let none : List Y = [] in none) k keys ∙ nothing keys

module _ {K Y : Type 0} {eq : K → K → Bool} (laws : IsEquivalence eq) (own : Option Y) (at : K) (lists : K → List Y) where
  abbrev more : K → List Y
  more k = cond (eq k at) (cons_option own (lists k)) (lists k)

  unmoved : (k : K) → eq k at ≡ true → (keys : List K) → AllByRecursion (λ other. eq k other ≡ false) keys → flat_map more keys ≡ flat_map lists keys
  unmoved k is [] apart = refl
  unmoved k is (other ∷ keys) apart =
      let differs : eq other at ≡ false = laws.symm other at ∙ sym (laws.congr k at other is) ∙ apart.0 in
      flat_map-cons more other keys
      ∙ ap (λ (b : Bool). cond b (cons_option own (lists other)) (lists other) ++ flat_map more keys) differs
      ∙ ap (λ (t : List Y). lists other ++ t) (unmoved k is keys apart.1) ∙ sym (flat_map-cons lists other keys)

  into_front : (front rest : List Y) → IsPermutation (front ++ cons_option own rest) (cons_option own (front ++ rest))
  into_front front rest = elim own as (λ o. IsPermutation (front ++ cons_option o rest) (cons_option o (front ++ rest))) [
    | None ↦ IsPermutation-refl (front ++ rest)
    | Some y ↦ IsPermutation-middle front y rest
  ]

  of_first : (first rest : List Y) → cons_option own first ++ rest ≡ cons_option own (first ++ rest)
  of_first first rest = elim own as (λ o. cons_option o first ++ rest ≡ cons_option o (first ++ rest)) [ None ↦ refl | Some y ↦ refl ]

  one_more : (keys : List K) → IsDistinct eq keys → list_any (λ k. eq k at) keys ≡ true
      → IsPermutation (flat_map more keys) (cons_option own (flat_map lists keys))
  one_more [] distinct there = absurd (true≢false (sym there))
  one_more (k ∷ keys) distinct there =
      ⊎_elim
      (λ (here : eq k at ≡ true).
      let same : flat_map more (k ∷ keys) ≡ cons_option own (flat_map lists (k ∷ keys))
      = flat_map-cons more k keys ∙ ap (λ (b : Bool). cond b (cons_option own (lists k)) (lists k) ++ flat_map more keys) here
      ∙ ap (λ (t : List Y). cons_option own (lists k) ++ t) (unmoved k here keys (IsDistinct-head eq k keys distinct))
      ∙ of_first (lists k) (flat_map lists keys) ∙ ap (cons_option own) (sym (flat_map-cons lists k keys)) in
      subst (IsPermutation (flat_map more (k ∷ keys))) same (IsPermutation-refl (flat_map more (k ∷ keys))))
      (λ (other : eq k at ≡ false).
      let later : list_any (λ q. eq q at) keys ≡ true = sym (ap (λ (b : Bool). b || list_any (λ q. eq q at) keys) other) ∙ there in
      let rest = one_more keys (IsDistinct-tail eq k keys distinct) later in
      let first : flat_map more (k ∷ keys) ≡ lists k ++ flat_map more keys
      = flat_map-cons more k keys ∙ ap (λ (b : Bool). cond b (cons_option own (lists k)) (lists k) ++ flat_map more keys) other in
      subst (λ (t : List Y). IsPermutation t (cons_option own (flat_map lists (k ∷ keys)))) (sym first)
      (subst (λ (t : List Y). IsPermutation (lists k ++ flat_map more keys) (cons_option own t)) (sym (flat_map-cons lists k keys))
      (IsPermutation-trans (lists k ++ flat_map more keys) (lists k ++ cons_option own (flat_map lists keys)) (cons_option own (lists k ++ flat_map lists keys))
      (IsPermutation-append_right (lists k) (flat_map more keys) (cons_option own (flat_map lists keys)) rest)
      (into_front (lists k) (flat_map lists keys)))))
      (cases_Bool (eq k at))

-- ---- all keys

module _ {K X Y : Type 0} {eq : K → K → Bool} (laws : IsEquivalence eq) (key : X → K) (read : List X → X → List X → Option Y) where
  -- what is read of the elements with a key
  abbrev pub of_key : List X → List X → K → List Y
  of_key before xs k = read_each read (with_key eq key k before) (with_key eq key k xs)

  of_key-next : (before : List X) (x : X) (later : List X) (k : K)
      → of_key before (x ∷ later) k
      ≡ cond (eq k (key x)) (cons_option (by_key eq key read before x later) (of_key (before ++ x ∷ []) later k)) (of_key (before ++ x ∷ []) later k)
  of_key-next before x later k =
      let after = with_key eq key k later in
      let next = with_key-more laws key k before x in
      elim (eq k (key x)) as (λ b. (eq k (key x) ≡ b) → (with_key eq key k (before ++ x ∷ []) ≡ with_key eq key k before ++ cond b (x ∷ []) [])
      → read_each read (with_key eq key k before) (cond b (x ∷ after) after)
      ≡ cond b (cons_option (by_key eq key read before x later) (of_key (before ++ x ∷ []) later k)) (of_key (before ++ x ∷ []) later k)) [
        | true ↦ λ is next.
            ap (λ (b : List X). cons_option (read b x after) (read_each read (with_key eq key k before ++ x ∷ []) after)) (with_key-same laws key k (key x) is before)
            ∙ ap (λ (l : List X). cons_option (read (with_key eq key (key x) before) x l) (read_each read (with_key eq key k before ++ x ∷ []) after)) (with_key-same laws key k (key x) is later)
            ∙ ap (λ (b : List X). cons_option (by_key eq key read before x later) (read_each read b after)) (sym next)
        | false ↦ λ is next. ap (λ (b : List X). read_each read b after) (sym (next ∙ append-nil (with_key eq key k before)))
      ] refl next

  -- an element has one of the keys, or nothing is ever read of it
  abbrev pub HasKeyOrNothing : List K → X → Type 0
  HasKeyOrNothing keys x = HasKeyIn eq key keys x ⊎ ((before later : List X) → read before x later ≡ None)

  -- what is read of the elements of each key, one key after another, is what is read by key, except for the order
  pub read-gathered : (keys : List K) → IsDistinct eq keys → (before xs : List X) → All (HasKeyOrNothing keys) xs
      → IsPermutation (flat_map (of_key before xs) keys) (read_each (by_key eq key read) before xs)
  read-gathered keys distinct before [] among = subst (λ (t : List Y). IsPermutation t []) (sym (nothing keys)) (IsPermutation-refl [])
  read-gathered keys distinct before (x ∷ later) among =
      let next = before ++ x ∷ [] in
      let own = by_key eq key read before x later in
      let whole = read_each (by_key eq key read) next later in
      let here = flat_map (of_key next later) keys in
      let rest = read-gathered keys distinct next later (All-tail (HasKeyOrNothing keys) x later among) in
      let lists : flat_map (of_key before (x ∷ later)) keys ≡ flat_map (more laws own (key x) (of_key next later)) keys
      = ap (λ (f : K → List Y). flat_map f keys) (λ i k. of_key-next before x later k i) in
      subst (λ (t : List Y). IsPermutation t (cons_option own whole)) (sym lists)
      (⊎_elim
      (λ (there : HasKeyIn eq key keys x).
      IsPermutation-trans (flat_map (more laws own (key x) (of_key next later)) keys) (cons_option own here) (cons_option own whole)
      (one_more laws own (key x) (of_key next later) keys distinct there)
      (elim own as (λ o. IsPermutation (cons_option o here) (cons_option o whole)) [
        | None ↦ rest
        | Some y ↦ IsPermutation-cons y here whole rest
      ]))
      (λ (quiet : (before later : List X) → read before x later ≡ None).
      let none : own ≡ None = quiet (with_key eq key (key x) before) (with_key eq key (key x) later) in
      subst (λ (o : Option Y). IsPermutation (flat_map (more laws o (key x) (of_key next later)) keys) (cons_option o whole)) (sym none)
      (subst (λ (t : List Y). IsPermutation t whole) (sym (no_more keys (key x) (of_key next later))) rest))
      (All-head (HasKeyOrNothing keys) x later among))
    where
      no_more : (keys : List K) (at : K) (lists : K → List Y) → flat_map (more laws None at lists) keys ≡ flat_map lists keys
      no_more [] at lists = refl
      no_more (k ∷ keys) at lists =
          flat_map-cons (more laws None at lists) k keys
          ∙ ap₂ (λ (a b : List Y). a ++ b) (elim (eq k at) as (λ b. cond b (lists k) (lists k) ≡ lists k) [ true ↦ refl | false ↦ refl ]) (no_more keys at lists)
          ∙ sym (flat_map-cons lists k keys)

-- rows that are made of the elements of each list
pub made_flat : {K Y R : Type 0} (row : Y → R) (lists : K → List Y) (keys : List K) → flat_map (λ k. map row (lists k)) keys ≡ map row (flat_map lists keys)
made_flat row lists [] = refl
made_flat {K} {Y} {R} row lists (k ∷ keys) =
    flat_map-cons (λ (k : K). map row (lists k)) k keys ∙ ap (λ (t : List R). map row (lists k) ++ t) (made_flat row lists keys)
    ∙ sym (map-append row (lists k) (flat_map lists keys)) ∙ ap (map row) (sym (flat_map-cons lists k keys))

-- the rows of what is read of the elements of each key, except for the order, are those of what is read by key
pub rows_gathered : {K X Y R : Type 0} {eq : K → K → Bool} (laws : IsEquivalence eq) (key : X → K) (read : List X → X → List X → Option Y) (row : Y → R)
    (keys : List K) → IsDistinct eq keys → (xs : List X) → All (HasKeyOrNothing laws key read keys) xs
    → IsPermutation (flat_map (λ k. map row (read_all read (with_key eq key k xs))) keys) (map row (read_all (by_key eq key read) xs))
rows_gathered {K} {X} {Y} {R} {eq} laws key read row keys distinct xs among =
    let lists : K → List Y = λ k. read_all read (with_key eq key k xs) in
    subst (λ (t : List R). IsPermutation t (map row (read_all (by_key eq key read) xs))) (sym (made_flat row lists keys))
    (IsPermutation-map row (flat_map lists keys) (read_all (by_key eq key read) xs) (read-gathered laws key read keys distinct [] xs among))

-- the rows of what is read of the elements of each key, sorted by a rank that rises in what is read by key, are the
-- rows of what is read by key
pub gathered_sorted : {K X Y R : Type 0} {eq : K → K → Bool} (laws : IsEquivalence eq) (key : X → K) (read : List X → X → List X → Option Y) (row : Y → R)
    (rank : R → ℕ) (keys : List K) → IsDistinct eq keys → (xs : List X) → All (HasKeyOrNothing laws key read keys) xs
    → Rises (λ y. rank (row y)) (read_all (by_key eq key read) xs) → (rows : List R)
    → IsPermutation (flat_map (λ k. map row (read_all read (with_key eq key k xs))) keys) rows → IsNonDecreasingBy rank rows
    → rows ≡ map row (read_all (by_key eq key read) xs)
gathered_sorted {K} {X} {Y} {R} {eq} laws key read row rank keys distinct xs among rises rows moved sorted =
    let whole = map row (read_all (by_key eq key read) xs) in
    let lists = flat_map (λ k. map row (read_all read (with_key eq key k xs))) keys in
    let all : IsPermutation lists whole = rows_gathered laws key read row keys distinct xs among in
    sym (in_place rank whole rows (rises-map row rank (read_all (by_key eq key read) xs) rises)
    (IsPermutation-trans whole lists rows (IsPermutation-sym lists whole all) moved) sorted)

-- ---- entries, each with a summary of its key's items

-- what holds of each thing that a list has holds of all
pub all_in : {X : Type 0} (P : X → Type 0) (xs : List X) → ((x : X) → In x xs → P x) → All P xs
all_in P [] each = All-nil P
all_in P (x ∷ xs) each = All-cons P x xs (each x (inl refl)) (all_in P xs (λ y there. each y (inr there)))

-- if a list has an element that passes a test, the test finds one in the list
pub in_any : {X : Type 0} (test : X → Bool) (xs : List X) (x : X) → In x xs → test x ≡ true → list_any test xs ≡ true
in_any test [] x here passes = absurd here
in_any test (y ∷ ys) x (inl is) passes = ap (λ (b : Bool). b || list_any test ys) (ap test (sym is) ∙ passes)
in_any test (y ∷ ys) x (inr there) passes =
    ap (λ (b : Bool). test y || b) (in_any test ys x there passes) ∙ elim (test y) as (λ b. (b || true) ≡ true) [ true ↦ refl | false ↦ refl ]

module _ {K I : Type 0} {eq : K → K → Bool} (laws : IsEquivalence eq) where
  -- the key of each pair has items
  pub has_own : (pairs : List (K × I)) (e : K × I) → In e pairs → items_of eq e.0 pairs ≡ [] → ⊥
  has_own [] e here none = absurd here
  has_own (f ∷ pairs) e (inl is) none =
      let same : eq e.0 f.0 ≡ true = ap (λ (t : K × I). eq e.0 t.0) (sym is) ∙ laws.refl e.0 in
      let some : cons_option (cond (eq e.0 f.0) (Some f.1) None) (items_of eq e.0 pairs) ≡ f.1 ∷ items_of eq e.0 pairs
      = ap (λ (b : Bool). cons_option (cond b (Some f.1) None) (items_of eq e.0 pairs)) same in
      let no : f.1 ∷ items_of eq e.0 pairs ≡ [] = sym some ∙ none in
      cc
  has_own (f ∷ pairs) e (inr there) none =
      elim (eq e.0 f.0) as (λ b. cons_option (cond b (Some f.1) None) (items_of eq e.0 pairs) ≡ [] → ⊥) [
        | true ↦ λ none. cc
        | false ↦ λ none. has_own pairs e there none
      ] none

  -- so the key of each pair is in a list of keys that leaves no key with items out
  pub key_among : (keys : List K) (pairs : List (K × I)) → ((key : K) → list_any (eq key) keys ≡ false → items_of eq key pairs ≡ []) → (e : K × I)
      → In e pairs → list_any (λ k. eq k e.0) keys ≡ true
  key_among keys pairs none e there =
      ap (λ (test : K → Bool). list_any test keys) (λ i k. laws.symm k e.0 i)
      ∙ ⊎_elim
      (λ (found : list_any (eq e.0) keys ≡ true). found)
      (λ (missing : list_any (eq e.0) keys ≡ false). absurd (has_own pairs e there (none e.0 missing)))
      (cases_Bool (list_any (eq e.0) keys))

module _ {K I X : Type 0} (eq : K → K → Bool) (split : X → K × I) where
  abbrev pub key_of : X → K
  key_of x = (split x).0

  abbrev pub item_of : X → I
  item_of x = (split x).1

  -- the items of a key are those of the elements with that key
  pub items_of_key : (k : K) (xs : List X) → items_of eq k (map split xs) ≡ map item_of (with_key eq key_of k xs)
  items_of_key k [] = refl
  items_of_key k (x ∷ xs) =
      let rest = items_of_key k xs in
      elim (eq k (key_of x)) as (λ b. cons_option (cond b (Some (item_of x)) None) (items_of eq k (map split xs))
      ≡ map item_of (cond b (x ∷ with_key eq key_of k xs) (with_key eq key_of k xs))) [
        | true ↦ ap (λ (t : List I). item_of x ∷ t) rest
        | false ↦ rest
      ]

-- equal lists are permutations of each other
pub as_it_is : {X : Type 0} (xs ys : List X) → xs ≡ ys → IsPermutation xs ys
as_it_is xs ys same = subst (IsPermutation xs) same (IsPermutation-refl xs)

module _ {K S I X Y R : Type 0} {eq : K → K → Bool} (laws : IsEquivalence eq) (split : X → K × I) (read : List X → X → List X → Option Y) (row : Y → R)
    (Sums : S → List I → Type 0) (lists : S → List R)
    (tells : (s : S) (own : List X) → Sums s (map (λ x. (split x).1) own) → IsPermutation (lists s) (map row (read_all read own))) (xs : List X) where
  abbrev of_xs : K → List R
  of_xs k = map row (read_all read (with_key eq (λ x. (split x).0) k xs))

  abbrev SumsOwn : K × S → Type 0
  SumsOwn e = Sums e.1 (items_of eq e.0 (map split xs))

  each_list : (entries : List (K × S)) → All SumsOwn entries → IsPermutation (flat_map (λ e. lists e.1) entries) (flat_map of_xs (keys_of entries))
  each_list [] each = IsPermutation-refl []
  each_list (e ∷ entries) each =
      let after = flat_map (λ (e : K × S). lists e.1) entries in
      let own = with_key eq (λ x. (split x).0) e.0 xs in
      let here = tells e.1 own (subst (Sums e.1) (items_of_key eq split e.0 xs) (All-head SumsOwn e entries each)) in
      let rest = each_list entries (All-tail SumsOwn e entries each) in
      subst (λ (t : List R). IsPermutation t (flat_map of_xs (keys_of (e ∷ entries)))) (sym (flat_map-cons (λ (e : K × S). lists e.1) e entries))
      (subst (λ (t : List R). IsPermutation (lists e.1 ++ after) t) (sym (flat_map-cons of_xs e.0 (keys_of entries)))
      (IsPermutation-append (lists e.1) (of_xs e.0) after (flat_map of_xs (keys_of entries)) here rest))

  module _ (entries : List (K × S)) (distinct : IsDistinct eq (keys_of entries)) (each : All SumsOwn entries)
      (none : (key : K) → list_any (eq key) (keys_of entries) ≡ false → items_of eq key (map split xs) ≡ []) where
    among : All (HasKeyOrNothing laws (λ x. (split x).0) read (keys_of entries)) xs
    among =
        all_in (HasKeyOrNothing laws (λ x. (split x).0) read (keys_of entries)) xs
        (λ x there. inl (key_among laws (keys_of entries) (map split xs) none (split x) (map-in split xs x there)))

    -- if each entry has the rows of what is read of the elements of its key, all entries have the rows of what is read
    -- by key, except for the order
    pub entries_gathered : IsPermutation (flat_map (λ e. lists e.1) entries) (map row (read_all (by_key eq (λ x. (split x).0) read) xs))
    entries_gathered =
        IsPermutation-trans (flat_map (λ e. lists e.1) entries) (flat_map of_xs (keys_of entries)) (map row (read_all (by_key eq (λ x. (split x).0) read) xs))
        (each_list entries each) (rows_gathered laws (λ x. (split x).0) read row (keys_of entries) distinct xs among)

    -- sorted, they are the rows of what is read by key
    pub entries_sorted : (rank : R → ℕ) → Rises (λ y. rank (row y)) (read_all (by_key eq (λ x. (split x).0) read) xs) → (rows : List R)
        → IsPermutation (flat_map (λ e. lists e.1) entries) rows → IsNonDecreasingBy rank rows
        → rows ≡ map row (read_all (by_key eq (λ x. (split x).0) read) xs)
    entries_sorted rank rises rows moved sorted =
        let whole = map row (read_all (by_key eq (λ x. (split x).0) read) xs) in
        let gathered = flat_map (λ (e : K × S). lists e.1) entries in
        sym (in_place rank whole rows (rises-map row rank (read_all (by_key eq (λ x. (split x).0) read) xs) rises)
        (IsPermutation-trans whole gathered rows (IsPermutation-sym gathered whole entries_gathered) moved) sorted)

-- a map by key has an entry for each key that has items, and each entry sums the items of its own key
module _ {K S I : Type 0} (cmp : K → K → Ordering) (laws : IsTotalOrder cmp) (Sums : S → List I → Type 0) (m : BTreeMap K S) (ordered : IsOrdered cmp m)
    (pairs : List (K × I)) (sums : SumsByKey cmp Sums m pairs) where
  pub map_parts : All (λ (e : K × S). (items_of (eq_by_cmp cmp) e.0 pairs ≢ []) × Sums e.1 (items_of (eq_by_cmp cmp) e.0 pairs)) m.entries
  map_parts =
      All-weaker (λ (e : K × S). get cmp m e.0 ≡ Some e.1)
      (λ e. (items_of (eq_by_cmp cmp) e.0 pairs ≢ []) × Sums e.1 (items_of (eq_by_cmp cmp) e.0 pairs))
      (λ e found. subst (λ (o : Option S). IsOwn Sums o (items_of (eq_by_cmp cmp) e.0 pairs)) found (sums e.0))
      m.entries (All-found laws m ordered)

  pub map_each : All (λ (e : K × S). Sums e.1 (items_of (eq_by_cmp cmp) e.0 pairs)) m.entries
  map_each k d within = (map_parts k d within).1

  pub map_none : (key : K) → list_any (eq_by_cmp cmp key) (keys_of m.entries) ≡ false → items_of (eq_by_cmp cmp) key pairs ≡ []
  map_none key missing =
      none_own Sums (get cmp m key) (items_of (eq_by_cmp cmp) key pairs) (sums key) (is_some-lookup (eq_by_cmp cmp key) m.entries ∙ missing)
