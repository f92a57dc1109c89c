-- The count of a list with one more change, and of one list of changes followed by another.
use Rattle.std.proofs.Common.{◌≡◌, ℕ, zero, suc, ◌+◌, ◌-◌, ◌<◌, ◌≤◌, ◌⊎◌, pos, negsuc, cond, Option, Some, None, refl, sym, ap, ap₂, subst, ◌∙◌, inl, inr, ⊎_elim, true, false, ℤ, append_assoc}
use Rattle.std.proofs.Common.{List, [], ◌∷◌, ◌++◌, length, map, take, length-append, arith}
use Rattle.std.specs.Prelude.{◌+ℤ◌, ◌≤ℤ◌, int_lt}
use Rattle.std.proofs.Math.Seq.{take-append-add, take-length}
use Rattle.std.proofs.lemmas.Bool.{cases_lt}
use Rattle.std.proofs.lemmas.Int.{clamps, ints}
use Rattle.std.proofs.lemmas.List.{append-nil, take-append-le, length-map, length-take-le}
use Rattle.std.proofs.lemmas.List.Sums.{sum_by-append}
use Rattle.std.specs.List.{cons_option, filter_map}
use Rattle.std.specs.Option.{option_map_or}
use Rattle.summary_law.specs.declared.count.Count.{Count}
use Rattle.summary_law.specs.Count.{Change, raises, lowers, keeps, is_raise, is_lower, total, least_total, count_of, IsCount, IsCountOf, IsWithin, CountsOneMore, change_read}

pub total-append : (changes more : List Change) → total (changes ++ more) ≡ total changes +ℤ total more
total-append changes more =
    let raised = sum_by-append (λ c. cond (is_raise c) 1 0) changes more in
    let lowered = sum_by-append (λ c. cond (is_lower c) 1 0) changes more in
    omega (arith, ints, raised, lowered)

-- the sum of a prefix that ends in the second list
total-into : (changes more : List Change) (n : ℕ) → total (take (length changes + n) (changes ++ more)) ≡ total changes +ℤ total (take n more)
total-into changes more n = ap total (take-append-add changes more n) ∙ total-append changes (take n more)

-- the count of two lists of changes, by the counts of both
pub record Joins (first second joined : Count) : Type 0 where
  pub sum : joined.sum ≡ first.sum +ℤ second.sum
  pub low : (joined.low ≡ first.low) ⊎ (joined.low ≡ first.sum +ℤ second.low)
  pub below_first : joined.low ≤ℤ first.low
  pub below_second : joined.low ≤ℤ (first.sum +ℤ second.low)

joined_least : (first second joined : Count) (changes more : List Change) → Joins first second joined → IsCount first changes → IsCount second more
    → (n : ℕ) → n ≤ length (changes ++ more) → joined.low ≤ℤ total (take n (changes ++ more))
joined_least first second joined changes more j a b n h =
    let long = length-append changes more in
    let sum = a.sum in
    ⊎_elim
    (λ (lt : n < length changes).
    let le : n ≤ length changes = omega arith in
    let below = a.least n le in
    let under = j.below_first in
    rw (take-append-le n changes more le) (omega (arith, ints, below, under)))
    (λ (le : length changes ≤ n).
    let k : n - length changes ≤ length more = omega arith in
    let below = b.least (n - length changes) k in
    let under = j.below_second in
    let whole : length changes + (n - length changes) ≡ n = omega arith in
    let prefix = total-into changes more (n - length changes) in
    let there : total (take n (changes ++ more)) ≡ total changes +ℤ total (take (n - length changes) more)
    = subst (λ (m : ℕ). total (take m (changes ++ more)) ≡ total changes +ℤ total (take (n - length changes) more)) whole prefix in
    omega (arith, ints))
    (cases_lt n (length changes))

joined_reached : (first second joined : Count) (changes more : List Change) → Joins first second joined → IsCount first changes → IsCount second more
    → (n : ℕ) × (n ≤ length (changes ++ more)) × (joined.low ≡ total (take n (changes ++ more)))
joined_reached first second joined changes more j a b =
    let long = length-append changes more in
    let sum = a.sum in
    ⊎_elim
    (λ (e : joined.low ≡ first.low).
    let within = a.reached.1 in
    (a.reached.0, omega arith, e ∙ a.reached.2 ∙ ap total (sym (take-append-le a.reached.0 changes more within))))
    (λ (e : joined.low ≡ first.sum +ℤ second.low).
    let within = b.reached.1 in
    let low = b.reached.2 in
    let prefix = total-into changes more b.reached.0 in
    (length changes + b.reached.0, omega arith, omega (arith, ints, e, low, prefix, sum)))
    j.low

pub joined_counts : (first second joined : Count) (changes more : List Change)
    → Joins first second joined → IsCount first changes → IsCount second more → IsCount joined (changes ++ more)
joined_counts first second joined changes more j a b =
    let in_first = a.sum in
    let in_second = b.sum in
    let in_joined = j.sum in
    let long = total-append changes more in
    record {
      sum = omega (arith, ints);
      reached = joined_reached first second joined changes more j a b;
      least = joined_least first second joined changes more j a b;
    }

least_reached : (before later : List Change) → (n : ℕ) × (n ≤ length later) × (least_total before later ≡ total (before ++ take n later))
least_reached before [] = (0, omega arith, ap total (sym (append-nil before)))
least_reached before (change ∷ later) =
    let rest = least_reached (before ++ change ∷ []) later in
    let whole : (before ++ change ∷ []) ++ take rest.0 later ≡ before ++ change ∷ take rest.0 later = append_assoc before (change ∷ []) (take rest.0 later) in
    elim (int_lt (least_total (before ++ change ∷ []) later) (total before)) as (λ b. (n : ℕ) × (n ≤ length (change ∷ later))
    × (cond b (least_total (before ++ change ∷ []) later) (total before) ≡ total (before ++ take n (change ∷ later)))) [
      | true ↦ (suc rest.0, omega (arith, rest.1), rest.2 ∙ ap total whole)
      | false ↦ (0, omega arith, ap total (sym (append-nil before)))
    ]

least_below : (before later : List Change) (n : ℕ) → n ≤ length later → least_total before later ≤ℤ total (before ++ take n later)
least_below before [] zero within = rw (append-nil before) (omega (arith, ints))
least_below before [] (suc n) within = absurd (omega arith)
least_below before (change ∷ later) zero within = rw (append-nil before) (omega (arith, ints, clamps))
least_below before (change ∷ later) (suc n) within =
    let rest = least_below (before ++ change ∷ []) later n (omega arith) in
    let below : least_total (before ++ change ∷ []) later ≤ℤ total (before ++ change ∷ take n later)
    = subst (λ (all : List Change). least_total (before ++ change ∷ []) later ≤ℤ total all) (append_assoc before (change ∷ []) (take n later)) rest in
    omega (arith, ints, clamps, below)

pub is_counted : (changes : List Change) → IsCount (count_of changes) changes
is_counted changes = record { sum = refl; reached = least_reached [] changes; least = least_below [] changes }

-- the count of one change that raises
pub up : Count
up = record { sum = pos 1; low = pos 0 }

up_counts : IsCount up (raises ∷ [])
unfolding up
up_counts = is_counted (raises ∷ [])

-- the count of one change that lowers
pub down : Count
down = record { sum = negsuc 0; low = negsuc 0 }

down_counts : IsCount down (lowers ∷ [])
unfolding down
down_counts = is_counted (lowers ∷ [])

-- the count of a list with one more change, which raises it
pub raised_counts : (old new : Count) → new.sum ≡ old.sum +ℤ pos 1 → new.low ≡ old.low → CountsOneMore raises old new
unfolding up
raised_counts old new sum low changes counts =
    let least = counts.least (length changes) (omega arith) in
    let whole : total (take (length changes) changes) ≡ old.sum = ap total (take-length changes) ∙ sym counts.sum in
    joined_counts old up new changes (raises ∷ [])
    (record { sum = sum; low = inl low; below_first = omega (arith, ints); below_second = omega (arith, ints) }) counts up_counts

-- the count of a list with one more change, which lowers it
pub lowered_counts : (old new : Count) → new.sum ≡ old.sum +ℤ negsuc 0 → (new.low ≡ old.low) ⊎ (new.low ≡ new.sum) → new.low ≤ℤ old.low → new.low ≤ℤ new.sum
    → CountsOneMore lowers old new
unfolding down
lowered_counts old new sum low below under changes counts =
    joined_counts old down new changes (lowers ∷ [])
    (record { sum = sum; low = ⊎_elim inl (λ (e : new.low ≡ new.sum). inr (e ∙ sum)) low; below_first = below; below_second = omega (arith, ints) }) counts down_counts

-- the count of one change that keeps it
level : Count
level = record { sum = pos 0; low = pos 0 }

level_counts : IsCount level (keeps ∷ [])
unfolding level
level_counts = is_counted (keeps ∷ [])

-- a list may get one more change that keeps its count
pub kept_counts : (count : Count) → CountsOneMore keeps count count
unfolding level
kept_counts count changes counts =
    let least = counts.least (length changes) (omega arith) in
    let whole : total (take (length changes) changes) ≡ count.sum = ap total (take-length changes) ∙ sym counts.sum in
    joined_counts count level count changes (keeps ∷ [])
    (record { sum = omega (arith, ints); low = inl refl; below_first = omega (arith, ints); below_second = omega (arith, ints) }) counts level_counts

total-cons : (change : Change) (changes : List Change) → total (change ∷ changes) ≡ total (change ∷ []) +ℤ total changes
total-cons change changes = total-append (change ∷ []) changes

pub total_low : (changes : List Change) → pos 0 ≤ℤ (total changes +ℤ pos (length changes))
total_low [] = omega (arith, ints)
total_low (raises ∷ cs) = omega (arith, ints, total-cons raises cs, total_low cs)
total_low (lowers ∷ cs) = omega (arith, ints, total-cons lowers cs, total_low cs)
total_low (keeps ∷ cs) = omega (arith, ints, total-cons keeps cs, total_low cs)

pub total_high : (changes : List Change) → total changes ≤ℤ pos (length changes)
total_high [] = omega (arith, ints)
total_high (raises ∷ cs) = omega (arith, ints, total-cons raises cs, total_high cs)
total_high (lowers ∷ cs) = omega (arith, ints, total-cons lowers cs, total_high cs)
total_high (keeps ∷ cs) = omega (arith, ints, total-cons keeps cs, total_high cs)

-- a count is no further from 0 than its list has changes
pub count_within : (count : Count) (changes : List Change) → IsCount count changes → IsWithin count (length changes)
count_within count changes counts =
    let sum = counts.sum in
    let short = counts.reached.1 in
    let low = counts.reached.2 in
    record {
      sum_low = omega (arith, ints, total_low changes);
      sum_high = omega (arith, ints, total_high changes);
      low_low = omega (arith, ints, total_low (take counts.reached.0 changes), length-take-le counts.reached.0 changes short);
      low_high = counts.least 0 (omega arith);
    }

same_after : (change : Change) (changes others : List Change) → total changes ≡ total others → total (change ∷ changes) ≡ total (change ∷ others)
same_after change changes others same = total-cons change changes ∙ ap (λ t. total (change ∷ []) +ℤ t) same ∙ sym (total-cons change others)

same_kept : (changes others : List Change) → total changes ≡ total others → total (keeps ∷ changes) ≡ total others
same_kept changes others same = omega (arith, ints, total-cons keeps changes)

module _ {E I : Type 0} (read : E → Option I) (change : I → Change) where
  -- what all things do to the count, and what the items that are read from them do
  abbrev all : List E → List Change
  all es = map (change_read read change) es

  abbrev own : List E → List Change
  own es = map change (filter_map read es)

  -- all things have the total of the items that are read from them
  pub same_total : (es : List E) → total (all es) ≡ total (own es)
  same_total [] = refl
  same_total (e ∷ es) =
      elim (read e) as (λ o. total (option_map_or change o keeps ∷ all es) ≡ total (map change (cons_option o (filter_map read es))))
      [ None ↦ same_kept (all es) (own es) (same_total es) | Some i ↦ same_after (change i) (all es) (own es) (same_total es) ]

  -- each prefix of all things has the total of a prefix of the items
  prefix_of_own : (n : ℕ) (es : List E) → (m : ℕ) × (m ≤ length (own es)) × (total (take n (all es)) ≡ total (take m (own es)))
  prefix_of_own zero es = (0, omega arith, refl)
  prefix_of_own (suc n) [] = (0, omega arith, refl)
  prefix_of_own (suc n) (e ∷ es) =
      let rest = prefix_of_own n es in
      elim (read e)
      as (λ o. (m : ℕ) × (m ≤ length (map change (cons_option o (filter_map read es))))
      × (total (take (suc n) (option_map_or change o keeps ∷ all es)) ≡ total (take m (map change (cons_option o (filter_map read es)))))) [
        | None ↦ (rest.0, rest.1, same_kept (take n (all es)) (take rest.0 (own es)) rest.2)
        | Some i ↦ (suc rest.0, omega (arith, rest.1), same_after (change i) (take n (all es)) (take rest.0 (own es)) rest.2)
      ]

  -- each prefix of the items has the total of a prefix of all things
  prefix_of_all : (m : ℕ) (es : List E) → m ≤ length (own es) → (n : ℕ) × (n ≤ length (all es)) × (total (take m (own es)) ≡ total (take n (all es)))
  prefix_of_all zero es = λ h. (0, omega arith, refl)
  prefix_of_all (suc m) [] = λ h. (0, omega arith, refl)
  prefix_of_all (suc m) (e ∷ es) =
      elim (read e)
      as (λ o. suc m ≤ length (map change (cons_option o (filter_map read es))) → (n : ℕ) × (n ≤ length (option_map_or change o keeps ∷ all es))
      × (total (take (suc m) (map change (cons_option o (filter_map read es)))) ≡ total (take n (option_map_or change o keeps ∷ all es)))) [
        | None ↦ λ h.
            let rest = prefix_of_all (suc m) es h in
            (suc rest.0, omega (arith, rest.1), sym (same_kept (take rest.0 (all es)) (take (suc m) (own es)) (sym rest.2)))
        | Some i ↦ λ h.
            let rest = prefix_of_all m es (omega arith) in
            (suc rest.0, omega (arith, rest.1), same_after (change i) (take m (own es)) (take rest.0 (all es)) rest.2)
      ]

  -- the count of the items that are read from a list is also the count of the list, whose other things keep it
  pub read_counts : (count : Count) (es : List E) → IsCountOf change count (filter_map read es) → IsCountOf (change_read read change) count es
  read_counts count es counts =
      let there = prefix_of_all counts.reached.0 es counts.reached.1 in
      record {
        sum = counts.sum ∙ sym (same_total es);
        reached = (there.0, there.1, counts.reached.2 ∙ there.2);
        least = λ n h.
            let own_prefix = prefix_of_own n es in
            subst (λ z. count.low ≤ℤ z) (sym own_prefix.2) (counts.least own_prefix.0 own_prefix.1);
      }

-- a count of what items do is no further from 0 than there are items
pub items_within : {I : Type 0} (change : I → Change) (count : Count) (items : List I) → IsCountOf change count items → IsWithin count (length items)
items_within change count items counts = subst (IsWithin count) (length-map items change) (count_within count (map change items) counts)

-- ---- the one count of some changes

pub one_count : (count other : Count) (changes : List Change) → IsCount count changes → IsCount other changes → count ≡ other
one_count count other changes a b =
    let reached = a.reached.2 in
    let other_reached = b.reached.2 in
    let above = b.least a.reached.0 a.reached.1 in
    let below = a.least b.reached.0 b.reached.1 in
    let low : count.low ≡ other.low = omega (arith, ints) in
    let make : ℤ → ℤ → Count = λ sum low. record { sum = sum; low = low } in
    ap₂ make (a.sum ∙ sym b.sum) low

pub counted : (count : Count) (changes : List Change) → IsCount count changes → count ≡ count_of changes
counted count changes is = one_count count (count_of changes) changes is (is_counted changes)
