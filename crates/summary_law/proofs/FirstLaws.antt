-- The keys of a list, each once and in the order in which they first come, if one more key or a second list follows.
use Rattle.std.proofs.Common.{◌≡◌, Bool, true, false, cond, not, ◌||◌, ◌&&◌, List, [], ◌∷◌, ◌++◌, filter, Some, None, is_some, refl, sym, ap, ◌∙◌, ⊎_elim, append_assoc}
use Rattle.std.proofs.lemmas.Bool.{cases_Bool}
use Rattle.std.proofs.lemmas.List.{append-nil, map-append}
use Rattle.std.proofs.lemmas.List.Elements.{filter-append, filter_agree}
use Rattle.std.proofs.lemmas.List.Folds.{list_any-append}
use Rattle.std.proofs.lemmas.Map.Made.{is_some-lookup}
use Rattle.std.proofs.lemmas.Map.Views.{any-filter_same}
use Rattle.std.proofs.Math.Bool.{or-false}
use Rattle.std.specs.Cmp.{IsEquivalence}
use Rattle.std.specs.List.{list_any, AllByRecursion}
use Rattle.std.specs.Map.{lookup, keys_of}
use Rattle.indexmap.specs.IndexMap.{IndexMap, insert_entry}
use Rattle.indexmap.proofs.CallerLemmas.{insert_entry-new}
use Rattle.summary_law.specs.InOrder.{firsts}
use Rattle.summary_law.proofs.FilterLaws.{filter_twice}

not_or : (a b : Bool) → not (a || b) ≡ (not b && not a)
not_or true true = refl
not_or true false = refl
not_or false true = refl
not_or false false = refl

module _ {K : Type 0} (eq : K → K → Bool) where
  -- those keys that are not among the keys seen
  abbrev pub unseen : List K → List K → List K
  unseen seen keys = filter (λ key. not (list_any (eq key) seen)) keys

  none_seen : (keys : List K) → unseen [] keys ≡ keys
  none_seen [] = refl
  none_seen (key ∷ keys) = ap (λ t. key ∷ t) (none_seen keys)

  pub firsts-append : (front back : List K) → firsts eq (front ++ back) ≡ firsts eq front ++ unseen front (firsts eq back)
  firsts-append [] back = sym (none_seen (firsts eq back))
  firsts-append (key ∷ front) back =
      let apart : K → Bool = λ other. not (eq other key) in
      ap (λ t. key ∷ filter apart t) (firsts-append front back)
      ∙ ap (λ t. key ∷ t) (filter-append apart (firsts eq front) (unseen front (firsts eq back)))
      ∙ ap (λ t. key ∷ (filter apart (firsts eq front) ++ t))
      (filter_twice apart (λ k. not (list_any (eq k) front)) (λ k. not (list_any (eq k) (key ∷ front)))
      (λ k. not_or (eq k key) (list_any (eq k) front)) (firsts eq back))

  -- one more key, which came before: the firsts stay
  firsts-old : (keys : List K) (key : K) → list_any (eq key) keys ≡ true → firsts eq (keys ++ key ∷ []) ≡ firsts eq keys
  firsts-old keys key there = firsts-append keys (key ∷ []) ∙ rw there (append-nil (firsts eq keys))

  -- one more key, which is new: it comes last
  firsts-new : (keys : List K) (key : K) → list_any (eq key) keys ≡ false → firsts eq (keys ++ key ∷ []) ≡ firsts eq keys ++ key ∷ []
  firsts-new keys key missing = firsts-append keys (key ∷ []) ∙ rw missing refl

  pub key_there : {X : Type 0} (key : K) (x : X) (entries : List (K × X)) → lookup (eq key) entries ≡ Some x → list_any (eq key) (keys_of entries) ≡ true
  key_there key x entries found = sym (is_some-lookup (eq key) entries) ∙ ap is_some found

  pub key_missing : {X : Type 0} (key : K) (entries : List (K × X)) → lookup (eq key) entries ≡ None → list_any (eq key) (keys_of entries) ≡ false
  key_missing key entries found = sym (is_some-lookup (eq key) entries) ∙ ap is_some found

  -- the keys to come, if the next one is there already
  pub old_passed : (seen rest : List K) (key : K) → list_any (eq key) seen ≡ true → unseen seen (key ∷ rest) ≡ unseen seen rest
  old_passed seen rest key there = rw there refl

  -- the entries once a new key is inserted
  pub inserted : {X H : Type 0} (map : IndexMap K X H) (old new : List (K × X)) (key : K) (part : X) → map.entries ≡ old
      → lookup (eq key) old ≡ None → new ≡ insert_entry eq map.entries key part → new ≡ old ++ (key, part) ∷ []
  inserted {X} map old new key part same found is =
      is ∙ insert_entry-new eq map key part (ap (λ (es : List (K × X)). lookup (eq key) es) same ∙ found)
      ∙ ap (λ (es : List (K × X)). es ++ (key, part) ∷ []) same

  -- the keys so far and those to come, after an entry whose key is there already
  pub order_stays : {X : Type 0} (now new : List K) (entries rest : List (K × X)) (key : K) (part : X) (all : List K)
      → new ≡ now → entries ≡ (key, part) ∷ rest → list_any (eq key) now ≡ true
      → now ++ unseen now (keys_of entries) ≡ all → new ++ unseen new (keys_of rest) ≡ all
  order_stays {X} now new entries rest key part all same is there order =
      ap (λ (ks : List K). ks ++ unseen ks (keys_of rest)) same
      ∙ ap (λ (ks : List K). now ++ ks) (sym (old_passed now (keys_of rest) key there))
      ∙ sym (ap (λ (es : List (K × X)). now ++ unseen now (keys_of es)) is) ∙ order

  -- the keys so far, if no entry is to come
  pub order_ends : {X : Type 0} (now : List K) (entries : List (K × X)) (all : List K)
      → entries ≡ [] → now ++ unseen now (keys_of entries) ≡ all → now ≡ all
  order_ends {X} now entries all is order =
      sym (append-nil now) ∙ sym (ap (λ (es : List (K × X)). now ++ unseen now (keys_of es)) is) ∙ order

  module _ (laws : IsEquivalence eq) where
    -- a key is among the firsts if it is in the list, and only then
    pub list_any-firsts : (key : K) (keys : List K) → list_any (eq key) (firsts eq keys) ≡ list_any (eq key) keys
    list_any-firsts key [] = refl
    list_any-firsts key (first ∷ keys) =
        ⊎_elim
        (λ (e : eq key first ≡ true). rw e refl)
        (λ (e : eq key first ≡ false).
        rw e
        (any-filter_same (eq key) (λ other. not (eq other first)) true (λ other same. ap not (sym (laws.congr key other first same) ∙ e)) (firsts eq keys)
        ∙ list_any-firsts key keys))
        (cases_Bool (eq key first))

    pub firsts-joined : (front back : List K) → firsts eq front ++ unseen (firsts eq front) (firsts eq back) ≡ firsts eq (front ++ back)
    firsts-joined front back =
        ap (λ t. firsts eq front ++ t)
        (filter_agree (λ k. not (list_any (eq k) (firsts eq front))) (λ k. not (list_any (eq k) front))
        (λ k. ap not (list_any-firsts k front)) (firsts eq back))
        ∙ sym (firsts-append front back)

    unseen_apart : (seen rest : List K) (key : K) → AllByRecursion (λ other. eq key other ≡ false) rest → unseen (seen ++ key ∷ []) rest ≡ unseen seen rest
    unseen_apart seen [] key apart = refl
    unseen_apart seen (other ∷ rest) key apart =
        let same : list_any (eq other) (seen ++ key ∷ []) ≡ list_any (eq other) seen
        = list_any-append (eq other) seen (key ∷ [])
        ∙ ap (λ b. list_any (eq other) seen || (b || false)) (laws.symm other key ∙ apart.0)
        ∙ or-false (list_any (eq other) seen) in
        let rest_same = unseen_apart seen rest key apart.1 in
        (λ j. cond (not (same j)) (other ∷ rest_same j) (rest_same j))

    -- the keys to come, if the next one is new and no later one equals it
    pub new_passed : (seen rest : List K) (key : K) → list_any (eq key) seen ≡ false → AllByRecursion (λ other. eq key other ≡ false) rest
        → (seen ++ key ∷ []) ++ unseen (seen ++ key ∷ []) rest ≡ seen ++ unseen seen (key ∷ rest)
    new_passed seen rest key missing apart =
        append_assoc seen (key ∷ []) (unseen (seen ++ key ∷ []) rest)
        ∙ ap (λ t. seen ++ key ∷ t) (unseen_apart seen rest key apart)
        ∙ ap (λ b. seen ++ cond (not b) (key ∷ unseen seen rest) (unseen seen rest)) (sym missing)

    -- the keys so far and those to come, after an entry whose key is new
    pub order_grows : {X : Type 0} (old new entries rest : List (K × X)) (key : K) (part : X) (all : List K)
        → new ≡ old ++ (key, part) ∷ [] → entries ≡ (key, part) ∷ rest → list_any (eq key) (keys_of old) ≡ false
        → AllByRecursion (λ other. eq key other ≡ false) (keys_of rest)
        → keys_of old ++ unseen (keys_of old) (keys_of entries) ≡ all → keys_of new ++ unseen (keys_of new) (keys_of rest) ≡ all
    order_grows {X} old new entries rest key part all more is missing apart order =
        ap (λ (ks : List K). ks ++ unseen ks (keys_of rest))
        (ap keys_of more ∙ map-append (λ (e : K × X). e.0) old ((key, part) ∷ []))
        ∙ new_passed (keys_of old) (keys_of rest) key missing apart
        ∙ sym (ap (λ (es : List (K × X)). keys_of old ++ unseen (keys_of old) (keys_of es)) is) ∙ order

    module _ {I : Type 0} (keys : List K) (items : List (K × I)) (key : K) (item : I) (are : keys ≡ firsts eq (keys_of items)) where
      one_more : keys_of (items ++ (key, item) ∷ []) ≡ keys_of items ++ key ∷ []
      one_more = map-append (λ (e : K × I). e.0) items ((key, item) ∷ [])

      among : list_any (eq key) keys ≡ list_any (eq key) (keys_of items)
      among = ap (λ (t : List K). list_any (eq key) t) are ∙ list_any-firsts key (keys_of items)

      -- the keys, with one more item of a key that is there
      pub firsts_stay : list_any (eq key) keys ≡ true → keys ≡ firsts eq (keys_of (items ++ (key, item) ∷ []))
      firsts_stay there = are ∙ sym (ap (firsts eq) one_more ∙ firsts-old (keys_of items) key (sym among ∙ there))

      -- the keys, with the first item of a key
      pub firsts_grow : list_any (eq key) keys ≡ false → keys ++ key ∷ [] ≡ firsts eq (keys_of (items ++ (key, item) ∷ []))
      firsts_grow missing =
          ap (λ (t : List K). t ++ key ∷ []) are ∙ sym (ap (firsts eq) one_more ∙ firsts-new (keys_of items) key (sym among ∙ missing))

    -- the keys of the entries and one more, with the first item of its key
    pub entries_grow : {X I : Type 0} (old new : List (K × X)) (items : List (K × I)) (key : K) (part : X) (item : I)
        → new ≡ old ++ (key, part) ∷ [] → keys_of old ≡ firsts eq (keys_of items) → list_any (eq key) (keys_of old) ≡ false
        → keys_of new ≡ firsts eq (keys_of (items ++ (key, item) ∷ []))
    entries_grow {X} old new items key part item more are missing =
        ap keys_of more ∙ map-append (λ (e : K × X). e.0) old ((key, part) ∷ []) ∙ firsts_grow (keys_of old) items key item are missing

    -- the keys of two lists of items that are joined
    pub firsts_join : {I : Type 0} (earlier later : List K) (first second : List (K × I))
        → earlier ≡ firsts eq (keys_of first) → later ≡ firsts eq (keys_of second)
        → earlier ++ unseen earlier later ≡ firsts eq (keys_of (first ++ second))
    firsts_join {I} earlier later first second mine theirs =
        ap (λ (t : List K). t ++ unseen t later) mine
        ∙ ap (λ (t : List K). firsts eq (keys_of first) ++ unseen (firsts eq (keys_of first)) t) theirs
        ∙ firsts-joined (keys_of first) (keys_of second)
        ∙ ap (firsts eq) (sym (map-append (λ (e : K × I). e.0) first second))
