-- Which code words are opaque, and the tally of those that are.
use Rattle.std.proofs.Common.{◌≡◌, ℕ, true, false, not, inl, inr, cond, eqb, Bool, List, [], ◌∷◌, ◌++◌, map, filter, ap, ◌∙◌, append-nil, refl, sym, arith}
use Rattle.std.specs.List.{list_any, AllPass}
use Rattle.std.proofs.lemmas.Bool.{cases_Bool, eq-eqb, not-false}
use Rattle.std.proofs.lemmas.Bool.Decides.{Decides-eqb}
use Rattle.std.proofs.lemmas.List.{length-map, map-append}
use Rattle.std.proofs.lemmas.List.Elements.{All-contains, filter-append}
use Rattle.std.proofs.lemmas.List.Sums.{AllPass-from_list_all, count_by-le-length, length-filter}
use Rattle.std.proofs.lemmas.Map.Made.{is_member-Decides}
use Rattle.binder_code.specs.Commands.{command_lines, return_lines, kind_of_word}
use Rattle.binder_code.specs.declared.record_kind.Kind.TheVariants.{Opaque}
use Rattle.summary_law.specs.Fits.{IsShort}
use Rattle.summary_law.proofs.GatherLaws.{in_any}
use Rattle.summary_law.proofs.Members.{In, contained, in_list}
use Rattle.audit_findings.specs.CodeCounts.{is_opaque_word, listed_words, word_item}
use Rattle.audit_findings.specs.Codes.{is_opaque_kind}

-- the word of a line is not opaque
pub not_opaque : (word : ℕ) → In word listed_words → is_opaque_word word ≡ false
not_opaque word there = ap not (in_any (eqb word) listed_words word there (eq-eqb word word refl))

-- and any other word is
pub word_listed : (word : ℕ) → is_opaque_word word ≡ false → In word listed_words
word_listed word is =
    in_list listed_words word ((is_member-Decides Decides-eqb listed_words word).0 (not-false (list_any (eqb word) listed_words) is))

-- no line's word is that of an opaque record
lines_known : AllPass (λ word. not (is_opaque_kind (kind_of_word word))) listed_words
unfolding command_lines return_lines
lines_known = AllPass-from_list_all (λ word. not (is_opaque_kind (kind_of_word word))) listed_words refl

-- the word of an opaque record is opaque
pub opaque_word : (word : ℕ) → kind_of_word word ≡ Opaque → is_opaque_word word ≡ true
opaque_word word is = elim (cases_Bool (is_opaque_word word)) [
  | inl opaque ↦ opaque
  | inr other ↦
      let known = All-contains (λ word. not (is_opaque_kind (kind_of_word word)) ≡ true) listed_words word lines_known (contained listed_words word (word_listed word other)) in
      let no : false ≡ true = sym (ap (λ kind. not (is_opaque_kind kind)) is) ∙ known in
      absurd cc
]

-- ---- the tally of opaque words

abbrev pub opaque_items : List ℕ → List (ℕ × ℕ)
opaque_items words = map word_item (filter is_opaque_word words)

pub items-append : (words more : List ℕ) → opaque_items (words ++ more) ≡ opaque_items words ++ opaque_items more
items-append words more = ap (map word_item) (filter-append is_opaque_word words more) ∙ map-append word_item (filter is_opaque_word words) (filter is_opaque_word more)

pub one_item : (words : List ℕ) (word : ℕ) → is_opaque_word word ≡ true → opaque_items (words ++ word ∷ []) ≡ opaque_items words ++ word_item word ∷ []
one_item words word is =
    let one : opaque_items (word ∷ []) ≡ word_item word ∷ [] = ap (λ (b : Bool). map word_item (cond b (word ∷ []) [])) is in
    items-append words (word ∷ []) ∙ ap (λ (t : List (ℕ × ℕ)). opaque_items words ++ t) one

pub no_item : (words : List ℕ) (word : ℕ) → is_opaque_word word ≡ false → opaque_items (words ++ word ∷ []) ≡ opaque_items words
no_item words word not =
    let none : opaque_items (word ∷ []) ≡ [] = ap (λ (b : Bool). map word_item (cond b (word ∷ []) [])) not in
    items-append words (word ∷ []) ∙ ap (λ (t : List (ℕ × ℕ)). opaque_items words ++ t) none ∙ append-nil (opaque_items words)

-- the opaque ones among few words can be tallied
pub opaque_few : (words : List ℕ) → IsShort words → IsShort (opaque_items words)
opaque_few words short =
    let long = length-filter is_opaque_word words in
    let fewer = count_by-le-length is_opaque_word words in
    let made = length-map (filter is_opaque_word words) word_item in
    omega (arith, long, fewer, made, short)
