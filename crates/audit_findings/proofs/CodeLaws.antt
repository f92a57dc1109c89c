-- The rows of counted code words.
use Rattle.std.proofs.Common.{◌≡◌, ◌≢◌, ℕ, ◌+◌, ◌<◌, Bool, true, false, inl, inr, cond, eqb, Some, None, List, [], ◌∷◌, ◌++◌, length, map, filter, get_or, All, AllPairs, IsPermutation, refl, sym, ap, ap₂, subst, ◌∙◌, arith, eqb-true}
use Rattle.std.specs.List.{cons_option}
use Rattle.std.specs.List.Sorted.{IsNonDecreasingBy}
use Rattle.std.specs.Ordering.{nat_cmp, eq_by_cmp}
use Rattle.std.proofs.lemmas.Bool.{cases_Bool, cases_eq, eq-eqb, false_from_ne_true, lt-ltb, ltb-true, ne_eqb}
use Rattle.std.proofs.lemmas.Bool.Decides.{Decides-eqb}
use Rattle.std.proofs.lemmas.Cmp.{nat_cmp_total, nat_eq_equiv, eq_by_cmp_equiv}
use Rattle.std.proofs.lemmas.List.{map-append, map-id}
use Rattle.std.proofs.lemmas.List.Elements.{All-contains, All-map, Contains-append_cases, Contains-get_or}
use Rattle.std.proofs.lemmas.List.Kept.{AllPairs-filter}
use Rattle.std.proofs.lemmas.List.Sorted.{All-permutation, Contains-permutation, IsPermutation-map, IsPermutation-sym}
use Rattle.std.proofs.lemmas.List.Sums.{length-filter, sum_by-cons}
use Rattle.std.proofs.lemmas.Map.Keys.{IsDistinct-IsPermutation, below_from_sorted, sorted_from_strictly_increasing}
use Rattle.std.proofs.lemmas.Map.Lookups.{exact_unsigned}
use Rattle.std.proofs.lemmas.Map.Made.{AllPairs-from_IsDistinct, IsDistinct-from_AllPairs}
use Rattle.std.proofs.lemmas.Map.Views.{tells_apart}
use Rattle.std.proofs.lemmas.Simd.{map-map}
use Rattle.capture_frame.proofs.Pairs.{pairs_append}
use Rattle.summary_law.proofs.FilterLaws.{filter-map}
use Rattle.summary_law.proofs.GatherLaws.{all_in}
use Rattle.summary_law.proofs.Members.{In, contained, in_list, pairs_from_rises, rises-map, rises_sorted}
use Rattle.summary_law.proofs.SortedLaws.{in_sorted, rows_are, sorted_in, strictly_sorted}
use Rattle.summary_law.proofs.TallyLaws.{tally_is}
use Rattle.summary_law.specs.ByKey.{items_of}
use Rattle.summary_law.specs.Sorted.{sorted}
use Rattle.summary_law.specs.Tally.{count_of_key, tally_row, AreTallyRows}
use Rattle.audit_findings.specs.declared.codes.CodeRow.{CodeRow}
use Rattle.audit_findings.specs.CodeCounts.{count_of, has_records, is_opaque_word, listed_rows, listed_words, row_of, word_item}
use Rattle.audit_findings.specs.Codes.{code_row, code_rows}
use Rattle.audit_findings.proofs.Kept.{in_back, in_front, in_kept, kept_count, kept_in}
use Rattle.audit_findings.proofs.LineCounts.{words_apart}
use Rattle.audit_findings.proofs.OpaqueWords.{not_opaque, opaque_items, word_listed}

-- numbers that compare as equal are equal, and others are not
pub same_key : (key word : ℕ) → eq_by_cmp nat_cmp key word ≡ eqb word key
same_key key word = elim (cases_eq word key) [
  | inl same ↦ rw (eq-eqb word key same, same) ((eq_by_cmp_equiv nat_cmp_total).refl key)
  | inr other ↦ rw (ne_eqb word key other) (false_from_ne_true (eq_by_cmp nat_cmp key word) (λ is. other (sym (tells_apart exact_unsigned key word is))))
]

module _ (key : ℕ) where
  abbrev is_key : ℕ → Bool
  is_key word = eqb word key

  -- a word of a list is counted there
  counted_in : (words : List ℕ) → In key words → 0 < count_of words key
  counted_in words there =
      let long = length-filter is_key words in
      let has = contained (filter is_key words) key (kept_in is_key words key there (eq-eqb key key refl)) in
      let within = has.1 in
      omega (arith, long, within)

  -- and what is counted in a list is a word of it
  in_counted : (words : List ℕ) → 0 < count_of words key → In key words
  in_counted words some =
      let long = length-filter is_key words in
      let kept = filter is_key words in
      let found = in_kept is_key words (get_or kept 0 0) (in_list kept (get_or kept 0 0) (Contains-get_or kept 0 0 (omega (arith, long, some)))) in
      subst (λ (word : ℕ). In word words) (eqb-true (get_or kept 0 0) key found.1) found.0

  one_longer : (is : Bool) (items : List ℕ) → length (cons_option (cond is (Some 0) None) items) ≡ cond is 1 0 + length items
  one_longer true items = omega arith
  one_longer false items = omega arith

  -- a tally of words has an item of the key for each word that is the key
  items_of_word : (words : List ℕ) → count_of_key nat_cmp key (map word_item words) ≡ count_of words key
  items_of_word [] = refl
  items_of_word (word ∷ words) =
      let items = items_of (eq_by_cmp nat_cmp) key (map word_item words) in
      ap (λ (is : Bool). length (cons_option (cond is (Some 0) None) items)) (same_key key word) ∙ one_longer (is_key word) items
      ∙ ap (λ (n : ℕ). cond (is_key word) 1 0 + n) (items_of_word words) ∙ sym (sum_by-cons (λ (w : ℕ). cond (is_key w) 1 0) word words)

module _ (words : List ℕ) where
  abbrev comes : ℕ → Bool
  comes word = has_records (code_row words word)

  abbrev opaque : List ℕ
  opaque = filter is_opaque_word words

  -- the words of the rows: first those of lines, then the opaque ones
  abbrev front : List ℕ
  front = filter comes listed_words

  abbrev back : List ℕ
  back = sorted nat_cmp opaque

  abbrev keys : List ℕ
  keys = front ++ back

  back_is : (key : ℕ) → In key back → In key words × (is_opaque_word key ≡ true)
  back_is key there = in_kept is_opaque_word words key (in_sorted nat_cmp opaque key there)

  -- ---- the keys are the different words

  keys_apart : AllPairs (λ (a b : ℕ). a ≢ b) keys
  keys_apart =
      pairs_append (λ (a b : ℕ). a ≢ b) front back (AllPairs-filter (λ (a b : ℕ). a ≢ b) comes listed_words words_apart)
      (λ i j d below within same. let less = below_from_sorted back i j d (strictly_sorted nat_cmp nat_cmp_total opaque) below within in absurd (omega (arith, less, same)))
      (all_in (λ (key : ℕ). All (λ (other : ℕ). key ≢ other) back) front
      (λ key here. all_in (λ (other : ℕ). key ≢ other) back
      (λ other there same.
      let no : false ≡ true = sym (not_opaque key (in_kept comes listed_words key here).0) ∙ ap is_opaque_word same ∙ (back_is other there).1 in absurd cc)))

  key_comes : (key : ℕ) → In key keys → In key words
  key_comes key there = elim (Contains-append_cases front back key (contained keys key there)) [
    | inl here ↦ in_counted key words (ltb-true 0 (count_of words key) (in_kept comes listed_words key (in_list front key here)).1)
    | inr here ↦ (back_is key (in_list back key here)).0
  ]

  comes_there : (key : ℕ) → In key words → In key keys
  comes_there key there = elim (cases_Bool (is_opaque_word key)) [
    | inl is ↦ in_back key front back (sorted_in nat_cmp opaque (λ x y at_x at_y same. exact_unsigned x y same) key (kept_in is_opaque_word words key there is))
    | inr other ↦ in_front key front back (kept_in comes listed_words key (word_listed key other) (lt-ltb 0 (count_of words key) (counted_in key words there)))
  ]

  -- ---- the rows are made of the keys

  -- an opaque word is counted among the opaque words as often as among all words
  opaque_count : (key : ℕ) → is_opaque_word key ≡ true → count_of opaque key ≡ count_of words key
  opaque_count key is =
      kept_count (λ w. eqb w key) is_opaque_word words (λ w there same. subst (λ (v : ℕ). is_opaque_word v ≡ true) (sym (eqb-true w key same)) is)

  opaque_rows : (own : List ℕ) → ((key : ℕ) → In key own → is_opaque_word key ≡ true)
      → map row_of (map (tally_row nat_cmp (opaque_items words)) own) ≡ map (code_row words) own
  opaque_rows [] each = refl
  opaque_rows (key ∷ own) each =
      let count = items_of_word key opaque ∙ opaque_count key (each key (inl refl)) in
      ap₂ (λ (n : ℕ) (rows : List CodeRow). let row : CodeRow = record { word = key; count = n } in row ∷ rows) count (opaque_rows own (λ k there. each k (inr there)))

  rows_made : (tallied : List (ℕ × ℕ × ℕ)) → AreTallyRows nat_cmp (opaque_items words) tallied → listed_rows words ++ map row_of tallied ≡ map (code_row words) keys
  rows_made tallied are =
      let make = tally_row nat_cmp (opaque_items words) in
      let tally : tallied ≡ map make back
      = tally_is nat_cmp nat_cmp_total exact_unsigned (opaque_items words) tallied are
      ∙ ap (λ (own : List ℕ). map make (sorted nat_cmp own)) (map-map (λ (item : ℕ × ℕ). item.0) word_item opaque ∙ map-id opaque) in
      ap₂ ◌++◌ (filter-map (code_row words) has_records listed_words) (ap (map row_of) tally ∙ opaque_rows back (λ key there. (back_is key there).1))
      ∙ sym (map-append (code_row words) front back)

  -- sorted by word, the rows of lines and of opaque words are those of all code words
  pub sorted_code_rows : (tallied : List (ℕ × ℕ × ℕ)) → AreTallyRows nat_cmp (opaque_items words) tallied → (rows : List CodeRow)
      → IsPermutation (listed_rows words ++ map row_of tallied) rows → IsNonDecreasingBy (λ row. row.word) rows → rows ≡ code_rows words
  sorted_code_rows tallied are rows moved sorted =
      let word : CodeRow → ℕ = λ row. row.word in
      let made = map (code_row words) keys in
      let rows_moved = subst (λ (before : List CodeRow). IsPermutation before rows) (rows_made tallied are) moved in
      let moved : IsPermutation keys (map word rows)
      = subst (λ (own : List ℕ). IsPermutation own (map word rows)) (map-map word (code_row words) keys ∙ map-id keys) (IsPermutation-map word made rows rows_moved) in
      let distinct = IsDistinct-IsPermutation eqb (λ x y. nat_eq_equiv.symm x y) keys (map word rows) moved (IsDistinct-from_AllPairs Decides-eqb keys keys_apart) in
      let rises = rises-map word (λ n. n) rows (rises_sorted word rows (AllPairs-from_IsDistinct Decides-eqb (map word rows) distinct) sorted) in
      let each = All-permutation (λ row. row ≡ code_row words row.word) made rows rows_moved
      (All-map (λ row. row ≡ code_row words row.word) (code_row words) keys (λ k d within. refl)) in
      rows_are nat_cmp nat_cmp_total exact_unsigned word (code_row words) words rows
      (sorted_from_strictly_increasing (map word rows) (λ k within. pairs_from_rises (λ n. n) (map word rows) rises k (k + 1) 0 (omega arith) within))
      (λ row there. All-contains (λ row. row ≡ code_row words row.word) rows row each (contained rows row there))
      (λ key there.
      key_comes key (in_list keys key (Contains-permutation (map word rows) keys key (IsPermutation-sym keys (map word rows) moved) (contained (map word rows) key there))))
      (λ key there. in_list (map word rows) key (Contains-permutation keys (map word rows) key moved (contained keys key (comes_there key there))))
