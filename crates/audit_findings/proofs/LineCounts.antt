-- Code words counted by the lines of the header: of two lists, and of one word more.
use Rattle.std.proofs.Common.{◌≡◌, ◌≢◌, ◌+◌, ◌<◌, ◌≤◌, ℕ, zero, suc, inl, inr, Bool, true, false, cond, eqb, Option, Some, None, List, [], ◌∷◌, ◌++◌, length, map, get_or, set, AllPairs, refl, sym, ap, ap₂, ◌∙◌, arith}
use Rattle.std.specs.List.{slice_get}
use Rattle.std.specs.Option.{option_map, option_map_or, unwrap_or}
use Rattle.std.specs.Prelude.{count_by}
use Rattle.std.proofs.lemmas.Bool.{eq-eqb, eqb-true, ne_eqb}
use Rattle.std.proofs.lemmas.Bool.Decides.{Decides-eqb}
use Rattle.std.proofs.lemmas.Cmp.{nat_eq_equiv}
use Rattle.std.proofs.lemmas.List.{ext_get_or, length-map}
use Rattle.std.proofs.lemmas.List.Elements.{All-contains}
use Rattle.std.proofs.lemmas.List.Sums.{count_by-le-length, sum_by-append, sum_by_push}
use Rattle.std.proofs.lemmas.Map.Made.{AllPairs-from_IsDistinct, IsDistinct-from_count}
use Rattle.std.proofs.lemmas.Option.{slice_get-map, slice_get_within, unwrap_or-slice_get}
use Rattle.binder_code.specs.Commands.{Row, command_lines, return_lines, lines, row_of, has_word}
use Rattle.binder_code.specs.declared.record_kind.Kind.{Kind}
use Rattle.binder_code.specs.declared.record_kind.Kind.TheVariants.{Opaque}
use Rattle.binder_code.proofs.WordKinds.{Means, word_of_meant}
use Rattle.capture_frame.proofs.Pairs.{pairs_head, pairs_tail}
use Rattle.summary_law.proofs.Members.{In, contained, get_in}
use Rattle.audit_findings.specs.declared.code_counts.TheConstants.{LISTED}
use Rattle.audit_findings.specs.CodeCounts.{CountListed, count_of, listed_words}
use Rattle.audit_findings.specs.RecordCounts.{times}

-- no two lines have the same code word
pub words_apart : AllPairs (λ (a b : ℕ). a ≢ b) listed_words
unfolding command_lines return_lines
words_apart = AllPairs-from_IsDistinct Decides-eqb listed_words (IsDistinct-from_count nat_eq_equiv listed_words refl)

-- there is a count for each line
pub lines_long : length listed_words ≡ LISTED
unfolding command_lines return_lines
lines_long = refl

-- ---- how often each of some keys is among words

module _ (words : List ℕ) where
  -- among the words of two lists a key is as often as among those of the first and those of the second
  pub counts-append : (more keys : List ℕ) (k : ℕ)
      → get_or (map (count_of (words ++ more)) keys) k 0 ≡ get_or (map (count_of words) keys) k 0 + get_or (map (count_of more) keys) k 0
  counts-append more [] k = refl
  counts-append more (key ∷ keys) zero = sum_by-append (λ (word : ℕ). cond (eqb word key) 1 0) words more
  counts-append more (key ∷ keys) (suc k) = counts-append more keys k

  -- and at most as often as there are words
  pub counts-le-length : (keys : List ℕ) (k : ℕ) → get_or (map (count_of words) keys) k 0 ≤ length words
  counts-le-length [] k = omega arith
  counts-le-length (key ∷ keys) zero = count_by-le-length (λ (word : ℕ). eqb word key) words
  counts-le-length (key ∷ keys) (suc k) = counts-le-length keys k

  module _ (word : ℕ) where
    other_key : (key : ℕ) → word ≢ key → count_of (words ++ word ∷ []) key ≡ count_of words key
    other_key key apart =
        let more = sum_by_push (λ (w : ℕ). cond (eqb w key) 1 0) words word in
        let none = ap (λ (is : Bool). cond {A = ℕ} is 1 0) (ne_eqb word key apart) in
        omega (arith, more, none)

    own_key : (key : ℕ) → word ≡ key → count_of (words ++ word ∷ []) key ≡ count_of words key + 1
    own_key key same =
        let more = sum_by_push (λ (w : ℕ). cond (eqb w key) 1 0) words word in
        let one = ap (λ (is : Bool). cond {A = ℕ} is 1 0) (eq-eqb word key same) in
        omega (arith, more, one)

    -- one more word changes no count of other keys
    pub other_keys_stay : (keys : List ℕ) → ¬ In word keys → map (count_of (words ++ word ∷ [])) keys ≡ map (count_of words) keys
    other_keys_stay [] absent = refl
    other_keys_stay (key ∷ keys) absent =
        ap₂ (λ (n : ℕ) (ns : List ℕ). n ∷ ns) (other_key key (λ same. absent (inl same))) (other_keys_stay keys (λ there. absent (inr there)))

    first_apart : (key : ℕ) (keys : List ℕ) → AllPairs (λ (a b : ℕ). a ≢ b) (key ∷ keys) → In word keys → key ≢ word
    first_apart key keys apart there =
        All-contains (λ (w : ℕ). key ≢ w) keys word (pairs_head (λ (a b : ℕ). a ≢ b) key keys apart) (contained keys word there)

    -- and adds 1 at its own place, if all keys differ
    pub own_key_counts : (keys : List ℕ) (place : ℕ) → AllPairs (λ (a b : ℕ). a ≢ b) keys → slice_get keys place ≡ Some word
        → map (count_of (words ++ word ∷ [])) keys ≡ set (map (count_of words) keys) place (get_or (map (count_of words) keys) place 0 + 1)
    own_key_counts [] place apart at = cc
    own_key_counts (key ∷ keys) zero apart at =
        let same : key ≡ word = cc in
        ap₂ (λ (n : ℕ) (ns : List ℕ). n ∷ ns) (own_key key (sym same)) (other_keys_stay keys (λ there. first_apart key keys apart there same))
    own_key_counts (key ∷ keys) (suc place) apart at =
        ap₂ (λ (n : ℕ) (ns : List ℕ). n ∷ ns) (other_key key (λ same. first_apart key keys apart (get_in keys place word at) (sym same)))
        (own_key_counts keys place (pairs_tail (λ (a b : ℕ). a ≢ b) key keys apart) at)

-- counts added place by place count the words of both
pub both_counted : (words more : List ℕ) (counts later joined : List ℕ) → CountListed counts words → CountListed later more → length joined ≡ LISTED
    → ((k : ℕ) → get_or joined k 0 ≡ get_or counts k 0 + get_or later k 0) → CountListed joined (words ++ more)
both_counted words more counts later joined sums others long added =
    ext_get_or 0 joined (map (count_of (words ++ more)) listed_words)
    (long ∙ sym lines_long ∙ sym (length-map listed_words (count_of (words ++ more))))
    (λ k within.
    added k ∙ ap₂ ◌+◌ (ap (λ (ns : List ℕ). get_or ns k 0) sums) (ap (λ (ns : List ℕ). get_or ns k 0) others) ∙ sym (counts-append words more listed_words k))

-- ---- the line of a kind

-- at the place of a kind's line is the code word that means the kind
pub word_at : (kind : Kind) (place word : ℕ) → slice_get lines place ≡ row_of kind → kind ≢ Opaque → Means word kind → slice_get listed_words place ≡ Some word
word_at kind place word is other means =
    slice_get-map (λ (line : Row). line.word) lines place ∙ ap (option_map (λ (line : Row). line.word)) is ∙ own_word (row_of kind) (word_of_meant kind word other means)
  where
    own_word : (line : Option Row) → option_map_or (has_word word) line false ≡ true → option_map (λ (line : Row). line.word) line ≡ Some word
    own_word None own = cc
    own_word (Some line) own = ap Some (sym (eqb-true word line.word own))

pub place_within : (kind : Kind) (place word : ℕ) → slice_get lines place ≡ row_of kind → kind ≢ Opaque → Means word kind → place < LISTED
place_within kind place word is other means =
    let inside = slice_get_within listed_words place word (word_at kind place word is other means) in
    let all = lines_long in
    omega (arith, inside, all)

none_pass : (words : List ℕ) → 0 ≡ count_by (λ (word : ℕ). false) words
none_pass [] = refl
none_pass (word ∷ words) = none_pass words

times_of_line : (line : Option Row) (words : List ℕ)
    → unwrap_or (option_map (count_of words) (option_map (λ (line : Row). line.word) line)) 0 ≡ count_by (λ (word : ℕ). option_map_or (has_word word) line false) words
times_of_line None words = none_pass words
times_of_line (Some line) words = refl

-- and there it is counted how many words are the kind's
pub times_at : (kind : Kind) (place : ℕ) (words : List ℕ) → slice_get lines place ≡ row_of kind → get_or (map (count_of words) listed_words) place 0 ≡ times kind words
times_at kind place words is =
    sym (unwrap_or-slice_get (map (count_of words) listed_words) place 0)
    ∙ ap (λ (o : Option ℕ). unwrap_or o 0)
    (slice_get-map (count_of words) listed_words place
    ∙ ap (option_map (count_of words)) (slice_get-map (λ (line : Row). line.word) lines place ∙ ap (option_map (λ (line : Row). line.word)) is))
    ∙ times_of_line (row_of kind) words
