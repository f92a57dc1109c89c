-- Counts of different words in one list.
use Rattle.std.proofs.Common.{◌≡◌, ◌≢◌, ℕ, ◌+◌, ◌<◌, ◌≤◌, inl, inr, cond, eqb, List, [], ◌∷◌, length, count_by, ap, arith}
use Rattle.std.proofs.lemmas.Bool.{cases_eq, eq-eqb, ne_eqb}
use Rattle.std.proofs.lemmas.List.Sums.{sum_by-cons}
use Rattle.binder_code.specs.Commands.{command_lines, return_lines}
use Rattle.binder_code.specs.declared.record_kind.Kind.TheVariants.{BrTransaction, BrTransactionSecCtx, BrReply}
use Rattle.audit_findings.specs.RecordCounts.{times}

abbrev one_if : ℕ → ℕ → ℕ
one_if key word = cond (eqb word key) 1 0

is_one : (key word : ℕ) → word ≡ key → one_if key word ≡ 1
is_one key word same = ap (λ b. cond b 1 0) (eq-eqb word key same)

is_zero : (key word : ℕ) → word ≢ key → one_if key word ≡ 0
is_zero key word other = ap (λ b. cond b 1 0) (ne_eqb word key other)

module _ (a b d : ℕ) (low : a < b) (high : b < d) where
  -- a word is at most one of three different words
  at_most_one : (word : ℕ) → one_if a word + one_if b word + one_if d word ≤ 1
  at_most_one word = elim (cases_eq word a) [
    | inl is ↦ (
        let first = is_one a word is in
        let second = is_zero b word (λ (e : word ≡ b). omega (arith, e, is, low)) in
        let third = is_zero d word (λ (e : word ≡ d). omega (arith, e, is, low, high)) in
        omega (arith, first, second, third))
    | inr not_a ↦ elim (cases_eq word b) [
      | inl is ↦ (
          let first = is_zero a word not_a in
          let second = is_one b word is in
          let third = is_zero d word (λ (e : word ≡ d). omega (arith, e, is, high)) in
          omega (arith, first, second, third))
      | inr not_b ↦ elim (cases_eq word d) [
        | inl is ↦ (
            let first = is_zero a word not_a in
            let second = is_zero b word not_b in
            let third = is_one d word is in
            omega (arith, first, second, third))
        | inr not_d ↦ (
            let first = is_zero a word not_a in
            let second = is_zero b word not_b in
            let third = is_zero d word not_d in
            omega (arith, first, second, third))
      ]
    ]
  ]

  -- three different words together are in a list no more often than it is long
  three_counts : (words : List ℕ)
      → count_by (λ w. eqb w a) words + count_by (λ w. eqb w b) words + count_by (λ w. eqb w d) words ≤ length words
  three_counts [] = omega arith
  three_counts (word ∷ words) =
      let first = sum_by-cons (one_if a) word words in
      let second = sum_by-cons (one_if b) word words in
      let third = sum_by-cons (one_if d) word words in
      let one = at_most_one word in
      let others = three_counts words in
      omega (arith, first, second, third, one, others)

-- three kinds have three different words
pub deliveries_fit : (words : List ℕ) → times BrTransaction words + times BrTransactionSecCtx words + times BrReply words ≤ length words
unfolding command_lines return_lines
deliveries_fit words =
    let all : times BrTransaction words + times BrReply words + times BrTransactionSecCtx words ≤ length words
    = three_counts 0x80407202 0x80407203 0x80487202 (omega arith) (omega arith) words in
    omega (arith, all)
