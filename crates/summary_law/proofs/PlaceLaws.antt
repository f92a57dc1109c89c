-- A map of parts by key, as a list of the parts and an index of their places.
use Rattle.std.proofs.Common.{◌≡◌, ◌≢◌, ◌⊎◌, inl, inr, ℕ, zero, suc, ◌<◌, Bool, true, false, cond, List, [], ◌∷◌, ◌++◌, Option, Some, None, IfSome, length, slice_get, slice_set, get_or, refl, sym, ap, subst, ◌∙◌, ⊎_elim, arith}
use Rattle.std.proofs.lemmas.Bool.{cases_Bool, true≢false}
use Rattle.std.proofs.lemmas.Cmp.{eq_by_cmp_equiv}
use Rattle.std.proofs.lemmas.List.{length-map, map-append}
use Rattle.std.proofs.lemmas.List.Elements.{All-weaker, recursion_from_All}
use Rattle.std.proofs.lemmas.Map.Entries.{place_from_lookup, lookup_from_place}
use Rattle.std.proofs.lemmas.Map.Keys.{IsDistinct-from_apart}
use Rattle.std.proofs.lemmas.Map.Views.{All-found}
use Rattle.std.proofs.lemmas.Option.{none-some, same_Some, slice_get-map, slice_get-get_or, slice_get_read, slice_get_within}
use Rattle.std.specs.BTreeMap.{BTreeMap, IsOrdered, get}
use Rattle.std.specs.Cmp.{IsTotalOrder}
use Rattle.std.specs.HashMap.Eq.{lookup_congr}
use Rattle.std.specs.List.{IsDistinct, cons_option}
use Rattle.std.specs.List.Sorted.{IsStrictlySortedBy}
use Rattle.std.specs.Map.{keys_of, lookup, values_of}
use Rattle.std.specs.Option.{option_and_then, option_map}
use Rattle.std.specs.Ordering.{eq_by_cmp}
use Rattle.std.specs.declared.cmp.Ordering.{Ordering}
use Rattle.summary_law.specs.Places.{ArePlaces, IsIndex, IsPut, part_map, parts_at}

module _ {X : Type 0} where
  item_there : (xs : List X) (i : ℕ) → i < length xs → (x : X) × (slice_get xs i ≡ Some x)
  item_there [] i h = absurd (omega arith)
  item_there (x ∷ xs) zero h = (x, refl)
  item_there (x ∷ xs) (suc i) h = item_there xs i (omega arith)

  get-pushed : (xs : List X) (x : X) → slice_get (xs ++ x ∷ []) (length xs) ≡ Some x
  get-pushed [] x = refl
  get-pushed (y ∷ ys) x = get-pushed ys x

  get-before : (xs : List X) (x : X) (i : ℕ) (y : X) → slice_get xs i ≡ Some y → slice_get (xs ++ x ∷ []) i ≡ Some y
  get-before [] x i y e = absurd (none-some y e)
  get-before (z ∷ zs) x zero y e = e
  get-before (z ∷ zs) x (suc i) y e = get-before zs x i y e

  -- an item of a list with one more is an item of the list, or the last
  get-grown : (xs : List X) (x : X) (i : ℕ) (y : X) → slice_get (xs ++ x ∷ []) i ≡ Some y
      → (slice_get xs i ≡ Some y) ⊎ ((i ≡ length xs) × (x ≡ y))
  get-grown [] x zero y e = inr (refl, same_Some x y e)
  get-grown [] x (suc i) y e = absurd (none-some y e)
  get-grown (z ∷ zs) x zero y e = inl e
  get-grown (z ∷ zs) x (suc i) y e =
      ⊎_elim inl (λ (last : (i ≡ length zs) × (x ≡ y)). inr (ap suc last.0, last.1)) (get-grown zs x i y e)

  get-set : (xs : List X) (i : ℕ) (w y : X) → slice_get xs i ≡ Some y → slice_get (slice_set xs i w) i ≡ Some w
  get-set [] i w y e = absurd (none-some y e)
  get-set (x ∷ xs) zero w y e = refl
  get-set (x ∷ xs) (suc i) w y e = get-set xs i w y e

  get-other : (xs : List X) (i j : ℕ) (w : X) → j ≢ i → slice_get (slice_set xs i w) j ≡ slice_get xs j
  get-other [] i j w other = refl
  get-other (x ∷ xs) zero zero w other = absurd (other refl)
  get-other (x ∷ xs) zero (suc j) w other = refl
  get-other (x ∷ xs) (suc i) zero w other = refl
  get-other (x ∷ xs) (suc i) (suc j) w other = get-other xs i j w (λ e. other (ap suc e))

-- what holds of each value that an option has
pub if_some : {X : Type 0} (o : Option X) {P : X → Type 0} → ((x : X) → o ≡ Some x → P x) → IfSome o P
if_some None each = tt
if_some (Some x) each = each x refl

pub none_left : {X : Type 0} (xs : List X) (n : ℕ) → n ≡ 0 → n ≡ length xs → xs ≡ []
none_left [] n none all = refl
none_left (x ∷ xs) n none all = absurd (omega (arith, none, all))

module _ {K S : Type 0} where
  keys-set : (parts : List (K × S)) (i : ℕ) (key : K) (old new : S) → slice_get parts i ≡ Some (key, old)
      → keys_of (slice_set parts i (key, new)) ≡ keys_of parts
  keys-set [] i key old new e = refl
  keys-set (p ∷ parts) zero key old new e = ap (λ (q : K × S). q.0 ∷ keys_of parts) (sym (same_Some p (key, old) e))
  keys-set (p ∷ parts) (suc i) key old new e = ap (λ t. p.0 ∷ t) (keys-set parts i key old new e)

  values-set : (parts : List (K × S)) (i : ℕ) (key : K) (new : S) → values_of (slice_set parts i (key, new)) ≡ slice_set (values_of parts) i new
  values-set [] i key new = refl
  values-set (p ∷ parts) zero key new = refl
  values-set (p ∷ parts) (suc i) key new = ap (λ t. p.1 ∷ t) (values-set parts i key new)

  value_there : (parts : List (K × S)) (i : ℕ) → i < length parts → (part : S) × (slice_get (values_of parts) i ≡ Some part)
  value_there parts i h = item_there (values_of parts) i (omega (arith, h, length-map parts (λ (p : K × S). p.1)))

  looked_up : (test : K → Bool) (parts : List (K × S)) (places : List (K × ℕ)) → ArePlaces parts places
      → lookup test (parts_at parts places) ≡ option_and_then (slice_get (values_of parts)) (lookup test places)
  looked_up test parts [] all = refl
  looked_up test parts (e ∷ places) all =
      let at = value_there parts e.1 all.0 in
      ap (λ (o : Option S). lookup test (cons_option (option_map (λ (part : S). (e.0, part)) o) (parts_at parts places))) at.1
      ∙ by_test (test e.0) (looked_up test parts places all.1)
    where
      by_test : (b : Bool) → lookup test (parts_at parts places) ≡ option_and_then (slice_get (values_of parts)) (lookup test places)
          → cond b (Some (value_there parts e.1 all.0).0) (lookup test (parts_at parts places))
          ≡ option_and_then (slice_get (values_of parts)) (cond b (Some e.1) (lookup test places))
      by_test true rest = sym (value_there parts e.1 all.0).1
      by_test false rest = rest

  keys_at : (parts : List (K × S)) (places : List (K × ℕ)) → ArePlaces parts places → keys_of (parts_at parts places) ≡ keys_of places
  keys_at parts [] all = refl
  keys_at parts (e ∷ places) all =
      let at = value_there parts e.1 all.0 in
      ap (λ (o : Option S). keys_of (cons_option (option_map (λ (part : S). (e.0, part)) o) (parts_at parts places))) at.1
      ∙ ap (λ t. e.0 ∷ t) (keys_at parts places all.1)

  entry_with : (parts : List (K × S)) (own : K) (place : ℕ) → slice_get (keys_of parts) place ≡ Some own → (part : S) × (slice_get parts place ≡ Some (own, part))
  entry_with [] own place e = absurd (none-some own e)
  entry_with (p ∷ parts) own zero e = (p.1, ap (λ (key : K). Some (key, p.1)) (same_Some p.0 own e))
  entry_with (p ∷ parts) own (suc place) e = entry_with parts own place e

module _ {K S : Type 0} (cmp : K → K → Ordering) (laws : IsTotalOrder cmp) (index : BTreeMap K ℕ) (parts : List (K × S)) (is : IsIndex cmp index parts) where
  pub within : (key : K) (place : ℕ) → get cmp index key ≡ Some place → place < length parts
  within key place at =
      let found = is.found key place at in
      omega (arith, slice_get_within (keys_of parts) place found.0 found.1, length-map parts (λ (p : K × S). p.0))

  pub places_of : ArePlaces parts index.entries
  places_of =
      recursion_from_All (λ (e : K × ℕ). e.1 < length parts) index.entries
      (All-weaker (λ (e : K × ℕ). get cmp index e.0 ≡ Some e.1) (λ (e : K × ℕ). e.1 < length parts) (λ e at. within e.0 e.1 at)
      index.entries (All-found laws index is.ordered))

  pub parts_ordered : IsOrdered cmp (part_map index parts)
  parts_ordered = subst (IsStrictlySortedBy cmp) (sym (keys_at parts index.entries places_of)) is.ordered

  pub get_is : (key : K) → get cmp (part_map index parts) key ≡ option_and_then (slice_get (values_of parts)) (get cmp index key)
  get_is key = looked_up (λ q. eq_by_cmp cmp key q) parts index.entries places_of

  pub found_part : (key : K) (place : ℕ) (e : K × S) → get cmp index key ≡ Some place → slice_get parts place ≡ Some e
      → get cmp (part_map index parts) key ≡ Some e.1
  found_part key place e at there =
      get_is key ∙ ap (option_and_then (slice_get (values_of parts))) at
      ∙ slice_get-map (λ (p : K × S). p.1) parts place ∙ ap (option_map (λ (p : K × S). p.1)) there

  pub no_part : (key : K) → get cmp index key ≡ None → get cmp (part_map index parts) key ≡ None
  no_part key none = get_is key ∙ ap (option_and_then (slice_get (values_of parts))) none

  -- the index has nothing under a key that has no part
  pub no_place : (key : K) → get cmp (part_map index parts) key ≡ None → get cmp index key ≡ None
  no_place key none =
      elim (get cmp index key) as (λ (o : Option ℕ). get cmp index key ≡ o → o ≡ None) [
        | None ↦ λ e. refl
        | Some place ↦ λ at.
            let value = value_there parts place (within key place at) in
            absurd (none-some value.0 (sym none ∙ get_is key ∙ ap (option_and_then (slice_get (values_of parts))) at ∙ value.1))
      ] refl

  pub same_place : (one other : K) → eq_by_cmp cmp one other ≡ true → get cmp index one ≡ get cmp index other
  same_place one other same = let equal = eq_by_cmp_equiv laws in lookup_congr (eq_by_cmp cmp) equal.congr index.entries one other same

  -- a key that equals the one at a place has that place
  pub guessed : (key : K) (place : ℕ) (e : K × S) → slice_get parts place ≡ Some e → eq_by_cmp cmp key e.0 ≡ true → get cmp index key ≡ Some place
  guessed key place e there same =
      same_place key e.0 same
      ∙ is.there place e.0 (slice_get-map (λ (p : K × S). p.0) parts place ∙ ap (option_map (λ (p : K × S). p.0)) there)

  pub index_stays : (others : List (K × S)) → keys_of others ≡ keys_of parts → IsIndex cmp index others
  index_stays others same = record {
    ordered = is.ordered;
    there = λ place key at. is.there place key (sym (ap (λ (ks : List K). slice_get ks place) same) ∙ at);
    found = λ key place at.
        let found = is.found key place at in
        (found.0, ap (λ (ks : List K). slice_get ks place) same ∙ found.1, found.2);
  }

module _ {K S : Type 0} (cmp : K → K → Ordering) (laws : IsTotalOrder cmp) (index : BTreeMap K ℕ) (parts : List (K × S)) (is : IsIndex cmp index parts) where
  pub entry_at : (key : K) (place : ℕ) (e : K × S) → get cmp index key ≡ Some place → e ≡ get_or parts place e → slice_get parts place ≡ Some e
  entry_at key place e at read = slice_get_read parts (length parts) place e refl (within cmp laws index parts is key place at) read

  pub index_written : (own : K) (place : ℕ) (old new : S) → slice_get parts place ≡ Some (own, old) → IsIndex cmp index (slice_set parts place (own, new))
  index_written own place old new there = index_stays cmp laws index parts is (slice_set parts place (own, new)) (keys-set parts place own old new there)

  -- the map, with another part at a place
  pub part_written : (key own : K) (place : ℕ) (old new : S) → get cmp index key ≡ Some place → slice_get parts place ≡ Some (own, old)
      → IsPut cmp (part_map index parts) key new (part_map index (slice_set parts place (own, new)))
  part_written key own place old new at there other =
      let written = slice_set parts place (own, new) in
      let values : values_of written ≡ slice_set (values_of parts) place new = values-set parts place own new in
      let stays = index_written own place old new there in
      let here : slice_get (values_of parts) place ≡ Some old
      = slice_get-map (λ (p : K × S). p.1) parts place ∙ ap (option_map (λ (p : K × S). p.1)) there in
      let whole : get cmp (part_map index written) other ≡ option_and_then (slice_get (slice_set (values_of parts) place new)) (get cmp index other)
      = get_is cmp laws index written stays other
      ∙ ap (λ (vs : List S). option_and_then (slice_get vs) (get cmp index other)) values in
      ⊎_elim
      (λ (same : eq_by_cmp cmp key other ≡ true).
      whole ∙ ap (option_and_then (slice_get (slice_set (values_of parts) place new))) (sym (same_place cmp laws index parts is key other same) ∙ at)
      ∙ get-set (values_of parts) place new old here
      ∙ sym (ap (λ b. cond b (Some new) (get cmp (part_map index parts) other)) same))
      (λ (apart : eq_by_cmp cmp key other ≡ false).
      whole ∙ elsewhere other (get cmp index other) refl apart
      ∙ sym (get_is cmp laws index parts is other)
      ∙ sym (ap (λ b. cond b (Some new) (get cmp (part_map index parts) other)) apart))
      (cases_Bool (eq_by_cmp cmp key other))
    where
      differs : (other : K) (far : ℕ) → get cmp index other ≡ Some far → eq_by_cmp cmp key other ≡ false → far ≢ place
      differs other far at_far apart e =
          let mine = is.found key place at in
          let theirs = is.found other far at_far in
          let one : mine.0 ≡ theirs.0
          = same_Some mine.0 theirs.0 (sym mine.1 ∙ ap (slice_get (keys_of parts)) (sym e) ∙ theirs.1) in
          let equal = eq_by_cmp_equiv laws in
          let same : eq_by_cmp cmp other mine.0 ≡ true = ap (eq_by_cmp cmp other) one ∙ theirs.2 in
          true≢false (sym same ∙ equal.symm other mine.0 ∙ sym (equal.congr key mine.0 other mine.2) ∙ apart)

      elsewhere : (other : K) (found : Option ℕ) → get cmp index other ≡ found → eq_by_cmp cmp key other ≡ false
          → option_and_then (slice_get (slice_set (values_of parts) place new)) found ≡ option_and_then (slice_get (values_of parts)) found
      elsewhere other None e apart = refl
      elsewhere other (Some far) e apart = get-other (values_of parts) place far new (differs other far e apart)

  module _ (key : K) (part : S) (grown : BTreeMap K ℕ) (none : get cmp index key ≡ None) (ordered : IsOrdered cmp grown)
      (puts : IsPut cmp index key (length parts) grown) where
    stays : (other : K) (place : ℕ) → get cmp index other ≡ Some place → get cmp grown other ≡ Some place
    stays other place at =
        ⊎_elim
        (λ (same : eq_by_cmp cmp key other ≡ true). absurd (none-some place (sym none ∙ same_place cmp laws index parts is key other same ∙ at)))
        (λ (apart : eq_by_cmp cmp key other ≡ false). puts other ∙ ap (λ b. cond b (Some (length parts)) (get cmp index other)) apart ∙ at)
        (cases_Bool (eq_by_cmp cmp key other))

    keys_longer : keys_of (parts ++ (key, part) ∷ []) ≡ keys_of parts ++ key ∷ []
    keys_longer = map-append (λ (p : K × S). p.0) parts ((key, part) ∷ [])

    last_key : slice_get (keys_of parts ++ key ∷ []) (length parts) ≡ Some key
    last_key =
        ap (slice_get (keys_of parts ++ key ∷ [])) (sym (length-map parts (λ (p : K × S). p.0))) ∙ get-pushed (keys_of parts) key

    last_value : slice_get (values_of (parts ++ (key, part) ∷ [])) (length parts) ≡ Some part
    last_value =
        ap (λ (vs : List S). slice_get vs (length parts)) (map-append (λ (p : K × S). p.1) parts ((key, part) ∷ []))
        ∙ ap (slice_get (values_of parts ++ part ∷ [])) (sym (length-map parts (λ (p : K × S). p.1))) ∙ get-pushed (values_of parts) part

    -- the index of the list with one more part
    pub index_grows : IsIndex cmp grown (parts ++ (key, part) ∷ [])
    index_grows = record {
      ordered = ordered;
      there = λ place q at.
          ⊎_elim
          (λ (old : slice_get (keys_of parts) place ≡ Some q). stays q place (is.there place q old))
          (λ (new : (place ≡ length (keys_of parts)) × (key ≡ q)).
          ap (get cmp grown) (sym new.1) ∙ puts key
          ∙ ap (λ b. cond b (Some (length parts)) (get cmp index key)) (let equal = eq_by_cmp_equiv laws in equal.refl key)
          ∙ ap Some (sym (new.0 ∙ length-map parts (λ (p : K × S). p.0))))
          (get-grown (keys_of parts) key place q (ap (λ (ks : List K). slice_get ks place) (sym keys_longer) ∙ at));
      found = λ q place at.
          ⊎_elim
          (λ (same : eq_by_cmp cmp key q ≡ true).
          let equal = eq_by_cmp_equiv laws in
          let last : length parts ≡ place
          = same_Some (length parts) place (sym (ap (λ b. cond b (Some (length parts)) (get cmp index q)) same) ∙ sym (puts q) ∙ at) in
          (key, ap (λ (ks : List K). slice_get ks place) keys_longer ∙ ap (slice_get (keys_of parts ++ key ∷ [])) (sym last) ∙ last_key, equal.symm q key ∙ same))
          (λ (apart : eq_by_cmp cmp key q ≡ false).
          let found = is.found q place (sym (ap (λ b. cond b (Some (length parts)) (get cmp index q)) apart) ∙ sym (puts q) ∙ at) in
          (found.0, ap (λ (ks : List K). slice_get ks place) keys_longer ∙ get-before (keys_of parts) key place found.0 found.1, found.2))
          (cases_Bool (eq_by_cmp cmp key q));
    }

    -- the map with one more part
    pub part_put : IsPut cmp (part_map index parts) key part (part_map grown (parts ++ (key, part) ∷ []))
    part_put other =
        let whole : get cmp (part_map grown (parts ++ (key, part) ∷ [])) other
        ≡ option_and_then (slice_get (values_of (parts ++ (key, part) ∷ []))) (get cmp grown other)
        = get_is cmp laws grown (parts ++ (key, part) ∷ []) index_grows other in
        ⊎_elim
        (λ (same : eq_by_cmp cmp key other ≡ true).
        whole ∙ ap (option_and_then (slice_get (values_of (parts ++ (key, part) ∷ []))))
        (puts other ∙ ap (λ b. cond b (Some (length parts)) (get cmp index other)) same)
        ∙ last_value
        ∙ sym (ap (λ b. cond b (Some part) (get cmp (part_map index parts) other)) same))
        (λ (apart : eq_by_cmp cmp key other ≡ false).
        whole ∙ ap (option_and_then (slice_get (values_of (parts ++ (key, part) ∷ []))))
        (puts other ∙ ap (λ b. cond b (Some (length parts)) (get cmp index other)) apart)
        ∙ before other (get cmp index other) refl
        ∙ sym (get_is cmp laws index parts is other)
        ∙ sym (ap (λ b. cond b (Some part) (get cmp (part_map index parts) other)) apart))
        (cases_Bool (eq_by_cmp cmp key other))
      where
        before : (other : K) (found : Option ℕ) → get cmp index other ≡ found
            → option_and_then (slice_get (values_of (parts ++ (key, part) ∷ []))) found ≡ option_and_then (slice_get (values_of parts)) found
        before other None e = refl
        before other (Some place) e =
            let value = value_there parts place (within cmp laws index parts is other place e) in
            ap (λ (vs : List S). slice_get vs place) (map-append (λ (p : K × S). p.1) parts ((key, part) ∷ []))
            ∙ get-before (values_of parts) part place value.0 value.1 ∙ sym value.1

  -- no two parts have equal keys
  pub parts_distinct : IsDistinct (eq_by_cmp cmp) (keys_of parts)
  parts_distinct =
      IsDistinct-from_apart (eq_by_cmp cmp) (keys_of parts)
      (λ i j d below inside.
      let here = is.there i (get_or (keys_of parts) i d) (slice_get-get_or (keys_of parts) i d (omega arith)) in
      let there = is.there j (get_or (keys_of parts) j d) (slice_get-get_or (keys_of parts) j d inside) in
      ⊎_elim
      (λ (same : eq_by_cmp cmp (get_or (keys_of parts) i d) (get_or (keys_of parts) j d) ≡ true).
      let one : i ≡ j = same_Some i j (sym here ∙ same_place cmp laws index parts is (get_or (keys_of parts) i d) (get_or (keys_of parts) j d) same ∙ there) in
      absurd (omega (arith, one)))
      (λ (apart : eq_by_cmp cmp (get_or (keys_of parts) i d) (get_or (keys_of parts) j d) ≡ false). apart)
      (cases_Bool (eq_by_cmp cmp (get_or (keys_of parts) i d) (get_or (keys_of parts) j d))))

  -- what the map has under a key is what the list has
  pub list_is : (key : K) → lookup (λ q. eq_by_cmp cmp key q) parts ≡ get cmp (part_map index parts) key
  list_is key =
      elim (lookup (λ q. eq_by_cmp cmp key q) parts) as
      (λ (o : Option S). lookup (λ q. eq_by_cmp cmp key q) parts ≡ o → o ≡ get cmp (part_map index parts) key) [
        | Some part ↦ λ at.
            let there = place_from_lookup (λ q. eq_by_cmp cmp key q) parts part at in
            sym (found_part cmp laws index parts is key there.0 (there.1, part) (guessed cmp laws index parts is key there.0 (there.1, part) there.2 there.3) there.2)
        | None ↦ λ none. sym (no_part cmp laws index parts is key (not_there none (get cmp index key) refl))
      ] refl
    where
      not_there : lookup (λ q. eq_by_cmp cmp key q) parts ≡ None → (o : Option ℕ) → get cmp index key ≡ o → get cmp index key ≡ None
      not_there none None e = e
      not_there none (Some place) e =
          let other = is.found key place e in
          let own : (part : S) × (slice_get parts place ≡ Some (other.0, part)) = entry_with parts other.0 place other.1 in
          let equal = eq_by_cmp_equiv laws in
          absurd (none-some own.0
          (sym none ∙ lookup_congr (eq_by_cmp cmp) equal.congr parts key other.0 other.2
          ∙ lookup_from_place equal parts place other.0 own.0 parts_distinct own.1))
