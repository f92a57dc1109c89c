-- A map of summaries, through an `add` and through a `join`.
use Rattle.std.proofs.Common.{◌≡◌, ◌≢◌, Bool, true, false, cond, List, [], ◌∷◌, ◌++◌, Option, Some, None, MatchOption, is_some, refl, sym, ap, subst, ◌∙◌, ⊎_elim}
use Rattle.std.proofs.lemmas.Bool.{cases_Bool, true≢false}
use Rattle.std.proofs.lemmas.List.{append-nil}
use Rattle.std.proofs.lemmas.Map.Keys.{IsDistinct-head}
use Rattle.std.specs.Cmp.{IsEquivalence}
use Rattle.std.specs.List.{IsDistinct, AllByRecursion}
use Rattle.std.specs.Map.{lookup, keys_of}
use Rattle.summary_law.specs.ByKey.{items_of, items_of-append, IsOwn, EachFits}

pub not_nil : {I : Type 0} (front : List I) (i : I) → front ++ i ∷ [] ≢ []
not_nil [] i e = cc
not_nil (x ∷ xs) i e = cc

not_nil_front : {I : Type 0} (front back : List I) → front ≢ [] → front ++ back ≢ []
not_nil_front [] back h = absurd (h refl)
not_nil_front (x ∷ xs) back h = λ e. cc

-- what is under a key that is not there
pub none_own : {S I : Type 0} (Sums : S → List I → Type 0) (part : Option S) (own : List I) → IsOwn Sums part own → is_some part ≡ false → own ≡ []
none_own Sums None own is none = is
none_own Sums (Some part) own is none = absurd (true≢false none)

-- a write after a removal at the same key
pub written_twice : {X : Type 0} (b : Bool) {x y : X} (z w v : X) → x ≡ cond b w y → y ≡ cond b v z → x ≡ cond b w z
written_twice true z w v e f = e
written_twice false z w v e f = e ∙ f

-- a write into an equal value
pub rewritten : {X : Type 0} (b : Bool) {x y z : X} (w : X) → x ≡ cond b w y → y ≡ z → x ≡ cond b w z
rewritten b w e f = e ∙ ap (λ t. cond b w t) f

-- under each key whose entry is among the rest there is still the earlier summary, and under the others the joined one
abbrev pub Merging : {K S I : Type 0} → (K → K → Bool) → (S → List I → Type 0) → (List I → Type 0) → (earlier later now : K → Option S) → List (K × S) → Type 0
Merging {K} {S} {I} eq Sums Fits earlier later now rest = (q : K) (front back : List I)
    → IsOwn Sums (earlier q) front → IsOwn Sums (later q) back → Fits (front ++ back)
    → MatchOption (lookup (eq q) rest) (IsOwn Sums (now q) (front ++ back)) (λ s. IsOwn Sums (now q) front × IsOwn Sums (Some s) back)

module _ {K S I : Type 0} (eq : K → K → Bool) (laws : IsEquivalence eq) (Sums : S → List I → Type 0) (Fits : List I → Type 0) where
  item_here : (q k : K) (i : I) → eq q k ≡ true → items_of eq q ((k, i) ∷ []) ≡ i ∷ []
  item_here q k i e = rw e refl

  item_elsewhere : (q k : K) (i : I) → eq q k ≡ false → items_of eq q ((k, i) ∷ []) ≡ []
  item_elsewhere q k i e = rw e refl

  -- if the items of each key fit with one more item, so do the items of its key
  pub fits_at : (items : List (K × I)) (k q : K) (i : I) → eq q k ≡ true → EachFits eq Fits (items ++ (k, i) ∷ []) → Fits (items_of eq q items ++ i ∷ [])
  fits_at items k q i same fits =
      subst Fits (items_of-append eq q items ((k, i) ∷ []) ∙ ap (λ (t : List I). items_of eq q items ++ t) (item_here q k i same)) (fits q)

  -- one more item, which the summary of its key takes
  pub added_part : (old now : K → Option S) → ((x y : K) → eq x y ≡ true → old x ≡ old y) → (k : K) (i : I) (new : S)
      → ((q : K) → now q ≡ cond (eq k q) (Some new) (old q))
      → ((front : List I) → IsOwn Sums (old k) front → Fits (front ++ i ∷ []) → Sums new (front ++ i ∷ []))
      → (items : List (K × I)) → ((q : K) → IsOwn Sums (old q) (items_of eq q items)) → EachFits eq Fits (items ++ (k, i) ∷ [])
      → (q : K) → IsOwn Sums (now q) (items_of eq q (items ++ (k, i) ∷ []))
  added_part old now same k i new writes step items sums fits q =
      rw (items_of-append eq q items ((k, i) ∷ []))
      (⊎_elim
      (λ (e : eq q k ≡ true).
      let here : now q ≡ Some new = writes q ∙ ap (λ b. cond b (Some new) (old q)) (laws.symm k q ∙ e) in
      let front : IsOwn Sums (old k) (items_of eq q items) = subst (λ (o : Option S). IsOwn Sums o (items_of eq q items)) (same q k e) (sums q) in
      rw (item_here q k i e)
      (subst (λ (o : Option S). IsOwn Sums o (items_of eq q items ++ i ∷ [])) (sym here)
      (not_nil (items_of eq q items) i, step (items_of eq q items) front (fits_at items k q i e fits))))
      (λ (e : eq q k ≡ false).
      let there : now q ≡ old q = writes q ∙ ap (λ b. cond b (Some new) (old q)) (laws.symm k q ∙ e) in
      rw (item_elsewhere q k i e, append-nil (items_of eq q items)) (subst (λ (o : Option S). IsOwn Sums o (items_of eq q items)) (sym there) (sums q)))
      (cases_Bool (eq q k)))

  none_merged : (earlier : K → Option S) (found : Option S) (q : K) (front back : List I) → IsOwn Sums (earlier q) front → IsOwn Sums found back
      → MatchOption found (IsOwn Sums (earlier q) (front ++ back)) (λ s. IsOwn Sums (earlier q) front × IsOwn Sums (Some s) back)
  none_merged earlier None q front back mine nil = rw (nil, append-nil front) mine
  none_merged earlier (Some s) q front back mine theirs = (mine, theirs)

  -- before the first entry is merged
  pub merging_starts : (earlier : K → Option S) (rest : List (K × S)) → Merging eq Sums Fits earlier (λ q. lookup (eq q) rest) earlier rest
  merging_starts earlier rest = λ q front back mine theirs fits. none_merged earlier (lookup (eq q) rest) q front back mine theirs

  -- no later entry has the key of the first one
  none_after : (q k : K) (rest : List (K × S)) → eq q k ≡ true → AllByRecursion (λ y. eq k y ≡ false) (keys_of rest) → lookup (eq q) rest ≡ None
  none_after q k [] e apart = refl
  none_after q k (r ∷ rest) e apart = rw (laws.congr q k r.0 e ∙ apart.0) (none_after q k rest e apart.1)

  -- one entry is merged
  pub merging_goes_on : (earlier later now next : K → Option S) (k : K) (s merged : S) (rest : List (K × S))
      → ((x y : K) → eq x y ≡ true → now x ≡ now y) → IsDistinct eq (keys_of ((k, s) ∷ rest))
      → ((q : K) → next q ≡ cond (eq k q) (Some merged) (now q))
      → ((front back : List I) → IsOwn Sums (now k) front → IsOwn Sums (Some s) back → Fits (front ++ back) → IsOwn Sums (Some merged) (front ++ back))
      → Merging eq Sums Fits earlier later now ((k, s) ∷ rest) → Merging eq Sums Fits earlier later next rest
  merging_goes_on earlier later now next k s merged rest same distinct writes joins merging = λ q front back mine theirs fits.
      ⊎_elim
      (λ (e : eq q k ≡ true).
      let here : next q ≡ Some merged = writes q ∙ ap (λ b. cond b (Some merged) (now q)) (laws.symm k q ∙ e) in
      let found : lookup (eq q) ((k, s) ∷ rest) ≡ Some s = ap (λ b. cond b (Some s) (lookup (eq q) rest)) e in
      let both : IsOwn Sums (now q) front × IsOwn Sums (Some s) back
      = subst (λ (o : Option S). MatchOption o (IsOwn Sums (now q) (front ++ back)) (λ s. IsOwn Sums (now q) front × IsOwn Sums (Some s) back)) found
      (merging q front back mine theirs fits) in
      let front_here : IsOwn Sums (now k) front = subst (λ (o : Option S). IsOwn Sums o front) (same q k e) both.0 in
      rw (none_after q k rest e (IsDistinct-head eq k (keys_of rest) distinct))
      (subst (λ (o : Option S). IsOwn Sums o (front ++ back)) (sym here) (joins front back front_here both.1 fits)))
      (λ (e : eq q k ≡ false).
      let there : next q ≡ now q = writes q ∙ ap (λ b. cond b (Some merged) (now q)) (laws.symm k q ∙ e) in
      let found : lookup (eq q) ((k, s) ∷ rest) ≡ lookup (eq q) rest = ap (λ b. cond b (Some s) (lookup (eq q) rest)) e in
      let before =
      subst (λ (o : Option S). MatchOption o (IsOwn Sums (now q) (front ++ back)) (λ s. IsOwn Sums (now q) front × IsOwn Sums (Some s) back)) found
      (merging q front back mine theirs fits) in
      subst (λ (o : Option S). MatchOption (lookup (eq q) rest) (IsOwn Sums o (front ++ back)) (λ s. IsOwn Sums o front × IsOwn Sums (Some s) back))
      (sym there) before)
      (cases_Bool (eq q k))

  -- the summaries of one key can be joined
  pub join_asks : (earlier later now : K → Option S) (k : K) (s : S) (rest : List (K × S)) → Merging eq Sums Fits earlier later now ((k, s) ∷ rest)
      → (firsts seconds : List (K × I)) → ((q : K) → IsOwn Sums (earlier q) (items_of eq q firsts)) → ((q : K) → IsOwn Sums (later q) (items_of eq q seconds))
      → EachFits eq Fits (firsts ++ seconds) → (mine : S) → now k ≡ Some mine
      → (front : List I) × (back : List I) × Sums mine front × Sums s back × Fits (front ++ back)
  join_asks earlier later now k s rest merging firsts seconds sums_first sums_second fits mine found =
      let front = items_of eq k firsts in
      let back = items_of eq k seconds in
      let fits_here : Fits (front ++ back) = subst Fits (items_of-append eq k firsts seconds) (fits k) in
      let both : IsOwn Sums (now k) front × IsOwn Sums (Some s) back
      = subst (λ (o : Option S). MatchOption o (IsOwn Sums (now k) (front ++ back)) (λ s. IsOwn Sums (now k) front × IsOwn Sums (Some s) back))
      (ap (λ b. cond b (Some s) (lookup (eq k) rest)) (laws.refl k)) (merging k front back (sums_first k) (sums_second k) fits_here) in
      let mine_sums : IsOwn Sums (Some mine) front = subst (λ (o : Option S). IsOwn Sums o front) found both.0 in
      (front, back, mine_sums.1, both.1.1, fits_here)

  -- the summary of a key that only the later map has
  pub alone : (now : Option S) (s : S) → now ≡ None → (front back : List I)
      → IsOwn Sums now front → IsOwn Sums (Some s) back → Fits (front ++ back) → IsOwn Sums (Some s) (front ++ back)
  alone now s none front back mine theirs fits =
      let nil : front ≡ [] = subst (λ (o : Option S). IsOwn Sums o front) none mine in
      rw nil theirs

  -- the joined summary of a key that both maps have
  pub together : (now : Option S) (mine s merged : S) → now ≡ Some mine
      → ((front back : List I) → Sums mine front → Sums s back → Fits (front ++ back) → Sums merged (front ++ back))
      → (front back : List I) → IsOwn Sums now front → IsOwn Sums (Some s) back → Fits (front ++ back) → IsOwn Sums (Some merged) (front ++ back)
  together now mine s merged found joins front back first second fits =
      let there : IsOwn Sums (Some mine) front = subst (λ (o : Option S). IsOwn Sums o front) found first in
      (not_nil_front front back there.0, joins front back there.1 second.1 fits)

  -- after the last entry each key has its joined summary
  pub merged_all : (earlier later now : K → Option S) → Merging eq Sums Fits earlier later now [] → (firsts seconds : List (K × I))
      → ((q : K) → IsOwn Sums (earlier q) (items_of eq q firsts)) → ((q : K) → IsOwn Sums (later q) (items_of eq q seconds))
      → EachFits eq Fits (firsts ++ seconds) → (q : K) → IsOwn Sums (now q) (items_of eq q (firsts ++ seconds))
  merged_all earlier later now merging firsts seconds sums_first sums_second fits q =
      rw (items_of-append eq q firsts seconds)
      (merging q (items_of eq q firsts) (items_of eq q seconds) (sums_first q) (sums_second q) (subst Fits (items_of-append eq q firsts seconds) (fits q)))
