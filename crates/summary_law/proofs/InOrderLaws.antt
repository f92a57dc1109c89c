-- What a map of summaries in the order of first items says, and which keys it has.
use Rattle.std.proofs.Common.{◌≡◌, ◌≢◌, Bool, true, false, not, List, [], ◌∷◌, ◌++◌, filter, Option, Some, None, is_some, All, slice_index_or, sym, ap, subst, ◌∙◌, ⊎_elim}
use Rattle.std.proofs.lemmas.Bool.{cases_Bool, true≢false}
use Rattle.std.proofs.lemmas.List.{append-nil}
use Rattle.std.proofs.lemmas.List.Elements.{All-filter, All-from_recursion, All-weaker, Contains-get_or, filter_passes, recursion_from_All}
use Rattle.std.proofs.lemmas.Map.Made.{is_some-lookup, All-is_member}
use Rattle.std.proofs.lemmas.Map.Steps.{list_any_congr}
use Rattle.std.proofs.lemmas.Map.Views.{lookup-from_Contains}
use Rattle.std.proofs.Math.Bool.{not-not}
use Rattle.std.specs.Cmp.{IsEquivalence}
use Rattle.std.specs.List.{list_any, AllByRecursion, IsDistinct}
use Rattle.std.specs.Map.{lookup, keys_of}
use Rattle.std.specs.Prelude.{⊤}
use Rattle.summary_law.specs.ByKey.{items_of, items_of-append, IsOwn}
use Rattle.summary_law.specs.InOrder.{firsts, SumsInOrder}
use Rattle.summary_law.proofs.ByKeyLaws.{not_nil, none_own}
use Rattle.summary_law.proofs.FirstLaws.{list_any-firsts, firsts_stay}

-- the keys that stay are still different
still_apart : {K : Type 0} (eq : K → K → Bool) (p : K → Bool) (key : K) (keys : List K) → AllByRecursion (λ other. eq key other ≡ false) keys
    → AllByRecursion (λ other. eq key other ≡ false) (filter p keys)
still_apart {K} eq p key keys apart =
    let Apart : K → Type 0 = λ other. eq key other ≡ false in
    recursion_from_All Apart (filter p keys) (All-filter p Apart keys (All-from_recursion Apart keys apart))

IsDistinct-filter : {K : Type 0} (eq : K → K → Bool) (p : K → Bool) (keys : List K) → IsDistinct eq keys → IsDistinct eq (filter p keys)
unfolding IsDistinct
IsDistinct-filter eq p [] distinct = tt
IsDistinct-filter eq p (key ∷ keys) distinct =
    ⊎_elim
    (λ (e : p key ≡ true). rw e (still_apart eq p key keys distinct.0, IsDistinct-filter eq p keys distinct.1))
    (λ (e : p key ≡ false). rw e (IsDistinct-filter eq p keys distinct.1))
    (cases_Bool (p key))

module _ {K : Type 0} {eq : K → K → Bool} (laws : IsEquivalence eq) where
  -- each key of the list equals one of the firsts
  pub each_among_firsts : (keys : List K) → All (λ key. list_any (eq key) (firsts eq keys) ≡ true) keys
  each_among_firsts keys =
      All-weaker (λ key. list_any (eq key) keys ≡ true) (λ key. list_any (eq key) (firsts eq keys) ≡ true)
      (λ key there. list_any-firsts eq laws key keys ∙ there) keys (All-is_member laws keys)

  none_equal : (key : K) (keys : List K) → AllByRecursion (λ other. eq key other ≡ false) (filter (λ other. not (eq other key)) keys)
  none_equal key keys =
      let others = filter (λ other. not (eq other key)) keys in
      let Apart : K → Type 0 = λ other. eq key other ≡ false in
      recursion_from_All Apart others
      (All-weaker (λ other. not (eq other key) ≡ true) Apart
      (λ other passes. laws.symm key other ∙ sym (not-not (eq other key)) ∙ ap not passes) others (filter_passes (λ other. not (eq other key)) keys))

  -- no two of the firsts are equal
  pub firsts_distinct : (keys : List K) → IsDistinct eq (firsts eq keys)
  unfolding IsDistinct
  firsts_distinct [] = tt
  firsts_distinct (key ∷ keys) =
      (none_equal key (firsts eq keys), IsDistinct-filter eq (λ other. not (eq other key)) (firsts eq keys) (firsts_distinct keys))

  module _ {S I : Type 0} (Sums : S → List I → Type 0) (entries : List (K × S)) (items : List (K × I)) (sums : SumsInOrder eq Sums entries items) where
    -- no two entries have equal keys
    pub entries_distinct : IsDistinct eq (keys_of entries)
    entries_distinct = subst (λ (t : List K). IsDistinct eq t) (sym sums.order) (firsts_distinct (keys_of items))

    -- each entry sums the items of its own key, and there is at least one
    pub each_sums : All (λ e. (items_of eq e.0 items ≢ []) × Sums e.1 (items_of eq e.0 items)) entries
    each_sums k d within =
        let e = slice_index_or entries k d in
        let found : lookup (eq e.0) entries ≡ Some e.1 = lookup-from_Contains laws e.0 e.1 entries entries_distinct (Contains-get_or entries k d within) in
        subst (λ (o : Option S). IsOwn Sums o (items_of eq e.0 items)) found (sums.parts e.0)

    -- a key that is not in any entry has no items
    pub none_else : (key : K) → list_any (eq key) (keys_of entries) ≡ false → items_of eq key items ≡ []
    none_else key missing = none_own Sums (lookup (eq key) entries) (items_of eq key items) (sums.parts key) (is_some-lookup (eq key) entries ∙ missing)

  -- a map that keeps only the keys stays right if one more item follows whose key is there
  pub same_keys : {S I : Type 0} (entries : List (K × S)) (items : List (K × I)) (key : K) (item : I)
      → SumsInOrder eq (λ (s : S) (own : List I). ⊤) entries items → list_any (eq key) (keys_of entries) ≡ true
      → SumsInOrder eq (λ (s : S) (own : List I). ⊤) entries (items ++ (key, item) ∷ [])
  same_keys {S} {I} entries items key item sums there = record {
    order = firsts_stay eq laws (keys_of entries) items key item sums.order there;
    parts = λ q.
        rw (items_of-append eq q items ((key, item) ∷ []))
        (⊎_elim
        (λ (e : eq q key ≡ true).
        rw e
        (one_more_own (lookup (eq q) entries) (items_of eq q items) item
        (is_some-lookup (eq q) entries ∙ list_any_congr laws q key (keys_of entries) e ∙ there)))
        (λ (e : eq q key ≡ false). rw (e, append-nil (items_of eq q items)) (sums.parts q))
        (cases_Bool (eq q key)));
  }
    where
      one_more_own : (part : Option S) (own : List I) (i : I) → is_some part ≡ true → IsOwn (λ (s : S) (own : List I). ⊤) part (own ++ i ∷ [])
      one_more_own None own i is = absurd (true≢false (sym is))
      one_more_own (Some part) own i is = (not_nil own i, tt)
