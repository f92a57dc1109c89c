-- The hexadecimal digits of a number: the last one, and those before it.
use Rattle.std.proofs.Common.{◌≡◌, ℕ, inl, inr, zero, suc, ◌+◌, ◌/◌, ◌%◌, ◌^◌, ◌<◌, ◌≤◌, Bool, true, false, cond, eqb, List, [], ◌∷◌, ◌++◌, length, length-append, refl, sym, ap, subst, ◌∙◌, arith}
use Rattle.std.specs.Fmt.{digit_glyph, digits, digits_onto}
use Rattle.std.proofs.lemmas.Bool.{cases_lt, eq-eqb, ne_eqb}
use Rattle.std.proofs.Math.Nat.{pow-suc}
use Rattle.std.proofs.lemmas.Fmt.{hex_one_digit}
use Rattle.report_text.specs.Line.{hex_digits}

-- the last k digits at most, followed by others
abbrev onto : ℕ → ℕ → List ℕ → List ℕ
onto k n others = digits_onto k 16 false n others

abbrev last_digit : ℕ → ℕ
last_digit n = digit_glyph false (n % 16)

onto-append : (k n : ℕ) (others more : List ℕ) → onto k n (others ++ more) ≡ onto k n others ++ more
onto-append zero n others more = refl
onto-append (suc k) n others more = by (eqb (n / 16) 0) (onto-append k (n / 16) (last_digit n ∷ others) more)
  where
    by : (b : Bool) → onto k (n / 16) (last_digit n ∷ others ++ more) ≡ onto k (n / 16) (last_digit n ∷ others) ++ more → cond b (last_digit n ∷ others ++ more) (onto k (n / 16) (last_digit n ∷ others ++ more))
        ≡ cond b (last_digit n ∷ others) (onto k (n / 16) (last_digit n ∷ others)) ++ more
    by true after = refl
    by false after = after

onto_last : (k n : ℕ) (others : List ℕ) → n < 16 → onto (suc k) n others ≡ last_digit n ∷ others
onto_last k n others few =
    ap (λ (b : Bool). cond b (last_digit n ∷ others) (onto k (n / 16) (last_digit n ∷ others))) (eq-eqb (n / 16) 0 (omega arith))

onto_more : (k n : ℕ) (others : List ℕ) → 16 ≤ n → onto (suc k) n others ≡ onto k (n / 16) (last_digit n ∷ others)
onto_more k n others many =
    ap (λ (b : Bool). cond b (last_digit n ∷ others) (onto k (n / 16) (last_digit n ∷ others))) (ne_eqb (n / 16) 0 (λ is. absurd (omega arith)))

divided : (k n : ℕ) → n < 16 ^ suc (suc k) → n / 16 < 16 ^ suc k
divided k n few = omega (arith, few, pow-suc 16 (suc k))

-- digits beyond those of a number change nothing
onto-enough : (j k n : ℕ) (others : List ℕ) → n < 16 ^ suc j → n < 16 ^ suc k → onto (suc j) n others ≡ onto (suc k) n others
onto-enough zero k n others few enough = onto_last zero n others few ∙ sym (onto_last k n others few)
onto-enough (suc j) zero n others few enough = onto_last (suc j) n others enough ∙ sym (onto_last zero n others enough)
onto-enough (suc j) (suc k) n others few enough =
    by (eqb (n / 16) 0) (onto-enough j k (n / 16) (last_digit n ∷ others) (divided j n few) (divided k n enough))
  where
    by : (b : Bool) → onto (suc j) (n / 16) (last_digit n ∷ others) ≡ onto (suc k) (n / 16) (last_digit n ∷ others) → cond b (last_digit n ∷ others) (onto (suc j) (n / 16) (last_digit n ∷ others))
        ≡ cond b (last_digit n ∷ others) (onto (suc k) (n / 16) (last_digit n ∷ others))
    by true after = refl
    by false after = after

length-onto : (k n : ℕ) (others : List ℕ) → length (onto k n others) ≤ k + length others
length-onto zero n others = omega arith
length-onto (suc k) n others = by (eqb (n / 16) 0) (length-onto k (n / 16) (last_digit n ∷ others))
  where
    by : (b : Bool) → length (onto k (n / 16) (last_digit n ∷ others)) ≤ k + suc (length others) → length (cond b (last_digit n ∷ others) (onto k (n / 16) (last_digit n ∷ others))) ≤ suc k + length others
    by true after = omega arith
    by false after = omega (arith, after)

-- the digits of a number that has at least two
pub hex_more : (n : ℕ) → 16 ≤ n → n < 2 ^ 64 → digits 16 false n ≡ digits 16 false (n / 16) ++ last_digit n ∷ []
unfolding digits
hex_more n many few =
    onto_more 63 n [] many ∙ onto-append 63 (n / 16) [] (last_digit n ∷ [])
    ∙ ap (λ (t : List ℕ). t ++ last_digit n ∷ []) (onto-enough 62 63 (n / 16) [] (omega arith) (omega arith))

-- the digit of a number that has only one
pub hex_one : (n : ℕ) → n < 16 → digits 16 false n ≡ last_digit n ∷ []
hex_one n few = let same : n % 16 ≡ n = omega arith in hex_one_digit false n few ∙ ap (λ d. digit_glyph false d ∷ []) (sym same)

pub length-hex_more : (n : ℕ) → 16 ≤ n → n < 2 ^ 64 → length (digits 16 false n) ≡ length (digits 16 false (n / 16)) + 1
length-hex_more n many few = ap length (hex_more n many few) ∙ length-append (digits 16 false (n / 16)) (last_digit n ∷ [])

pub length-hex_one : (n : ℕ) → n < 16 → length (digits 16 false n) ≡ 1
length-hex_one n few = ap length (hex_one n few)

-- a number of 64 bits has at most sixteen digits
pub length-hex : (n : ℕ) → n < 2 ^ 64 → length (digits 16 false n) ≤ 16
unfolding digits
length-hex n few =
    let same : onto 64 n [] ≡ onto 16 n [] = onto-enough 63 15 n [] (omega arith) (omega arith) in
    let short = length-onto 16 n [] in
    subst (λ (t : List ℕ). length t ≤ 16) (sym same) (omega (arith, short))

-- the last digits of a number, as many as it has, are all its digits
last_ones : (k n : ℕ) → n < 16 ^ suc k → n < 2 ^ 64 → hex_digits (length (digits 16 false n)) n ≡ digits 16 false n
last_ones zero n few small = ap (λ (j : ℕ). hex_digits j n) (length-hex_one n few) ∙ sym (hex_one n few)
last_ones (suc k) n few small = elim (cases_lt n 16) as (λ _. hex_digits (length (digits 16 false n)) n ≡ digits 16 false n) [
  | inl one ↦ ap (λ (j : ℕ). hex_digits j n) (length-hex_one n one) ∙ sym (hex_one n one)
  | inr many ↦
      let front : length (digits 16 false n) ≡ suc (length (digits 16 false (n / 16))) = let more = length-hex_more n many small in omega (arith, more) in
      ap (λ (j : ℕ). hex_digits j n) front
      ∙ ap (λ (t : List ℕ). t ++ last_digit n ∷ []) (last_ones k (n / 16) (divided k n few) (omega (arith, small))) ∙ sym (hex_more n many small)
]

pub all_digits : (n : ℕ) → n < 2 ^ 64 → hex_digits (length (digits 16 false n)) n ≡ digits 16 false n
all_digits n small = last_ones 15 n (omega (arith, small)) small
