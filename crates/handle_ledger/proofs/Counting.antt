-- What items do to a count and to a sum: with one more item, and in one list followed by another.
use Rattle.std.proofs.Common.{◌≡◌, ◌-◌, ◌^◌, ℤ, pos, negsuc, List, [], ◌∷◌, ◌++◌, length, map, sym, ap, ◌∙◌, length-append, arith}
use Rattle.std.proofs.lemmas.Int.{ints}
use Rattle.std.proofs.lemmas.List.{length-map, map-append}
use Rattle.std.specs.Prelude.{◌+ℤ◌, ◌≤ℤ◌, ◌<ℤ◌}
use mir.Syntax.{w64}
use mir.Val.{to_z, of_z}
use Rattle.handle_ledger.specs.Nodes.{IsSumOf}
use Rattle.summary_law.proofs.CountLaws.{items_within, total-append, total_low, total_high}
use Rattle.summary_law.specs.Count.{Change, total, IsCountOf, CountsOneMore, CountsBoth}
use Rattle.summary_law.specs.Fits.{IsShort, short_halves}
use Rattle.summary_law.specs.declared.count.Count.{Count}

-- two counts that can be joined
pub record CanJoin (earlier later : Count) : Type 0 where
  pub sum_low : negsuc (2 ^ 63 - 1) ≤ℤ (earlier.sum +ℤ later.sum)
  pub sum_high : (earlier.sum +ℤ later.sum) ≤ℤ pos (2 ^ 63 - 1)
  pub low_low : negsuc (2 ^ 63 - 1) ≤ℤ (earlier.sum +ℤ later.low)
  pub low_high : (earlier.sum +ℤ later.low) ≤ℤ pos (2 ^ 63 - 1)

-- a sum that is far from the ends of its type
pub record IsSmall (sum : ℤ) : Type 0 where
  pub above : pos 0 ≤ℤ (sum +ℤ pos (2 ^ 32))
  pub below : sum ≤ℤ pos (2 ^ 32)

-- the sum of two small numbers of 64 bits, as it is computed
wrapped_sum : (a b : ℤ) → IsSmall a → IsSmall b → to_z w64 (of_z w64 (to_z w64 (of_z w64 a) +ℤ to_z w64 (of_z w64 b))) ≡ a +ℤ b
wrapped_sum a b small_a small_b = omega (arith, ints)

module _ {I : Type 0} (change : I → Change) where
  pub count_more : (old new : Count) (items : List I) (item : I) → CountsOneMore (change item) old new → IsCountOf change old items
      → IsCountOf change new (items ++ item ∷ [])
  count_more old new items item step counts = rw (map-append change items (item ∷ [])) (step (map change items) counts)

  pub count_both : (earlier later whole : Count) (first second : List I) → CountsBoth earlier later whole → IsCountOf change earlier first
      → IsCountOf change later second → IsCountOf change whole (first ++ second)
  count_both earlier later whole first second joins mine theirs =
      rw (map-append change first second) (joins (map change first) (map change second) mine theirs)

  pub sum_more : (old new : ℤ) (items : List I) (item : I) → new ≡ old +ℤ total (change item ∷ []) → IsSumOf change old items
      → IsSumOf change new (items ++ item ∷ [])
  sum_more old new items item step sums =
      rw (map-append change items (item ∷ []))
      (step ∙ ap (λ (sum : ℤ). sum +ℤ total (change item ∷ [])) sums ∙ sym (total-append (map change items) (change item ∷ [])))

  pub sum_both : (earlier later whole : ℤ) (first second : List I) → whole ≡ earlier +ℤ later → IsSumOf change earlier first
      → IsSumOf change later second → IsSumOf change whole (first ++ second)
  sum_both earlier later whole first second joined mine theirs =
      rw (map-append change first second)
      (joined ∙ ap (λ (sum : ℤ). sum +ℤ later) mine ∙ ap (λ (sum : ℤ). total (map change first) +ℤ sum) theirs
      ∙ sym (total-append (map change first) (map change second)))

  -- the count of few items has room for one more item
  pub can_raise : (count : Count) (items : List I) (item : I) → IsCountOf change count items → IsShort (items ++ item ∷ [])
      → count.sum <ℤ pos (2 ^ 63 - 1)
  can_raise count items item counts short =
      let within = items_within change count items counts in
      let high = within.sum_high in
      let long = length-append items (item ∷ []) in
      omega (arith, ints)

  pub can_lower : (count : Count) (items : List I) (item : I) → IsCountOf change count items → IsShort (items ++ item ∷ [])
      → negsuc (2 ^ 63 - 1) <ℤ count.sum
  can_lower count items item counts short =
      let within = items_within change count items counts in
      let low = within.sum_low in
      let long = length-append items (item ∷ []) in
      omega (arith, ints)

  pub can_join : (earlier later : Count) (first second : List I) → IsCountOf change earlier first → IsCountOf change later second
      → IsShort (first ++ second) → CanJoin earlier later
  can_join earlier later first second mine theirs short =
      let a = items_within change earlier first mine in
      let b = items_within change later second theirs in
      let long = length-append first second in
      record {
        sum_low = omega (arith, ints, a, b);
        sum_high = omega (arith, ints, a, b);
        low_low = omega (arith, ints, a, b);
        low_high = omega (arith, ints, a, b);
      }

  -- the sum of few items is small
  pub sum_small : (sum : ℤ) (items : List I) → IsSumOf change sum items → IsShort items → IsSmall sum
  sum_small sum items sums short =
      let low = total_low (map change items) in
      let high = total_high (map change items) in
      let long : length (map change items) ≡ length items = length-map items change in
      record { above = omega (arith, ints); below = omega (arith, ints) }

  -- the sums of both halves of a short list, added
  pub sums_added : (earlier later : ℤ) (first second : List I) → IsSumOf change earlier first → IsSumOf change later second → IsShort (first ++ second)
      → to_z w64 (of_z w64 (to_z w64 (of_z w64 earlier) +ℤ to_z w64 (of_z w64 later))) ≡ earlier +ℤ later
  sums_added earlier later first second mine theirs short =
      let few = short_halves first second short in
      wrapped_sum earlier later (sum_small earlier first mine few.0) (sum_small later second theirs few.1)
