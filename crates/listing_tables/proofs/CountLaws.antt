-- What one more change does to what a process takes of a generation.
use Rattle.std.proofs.Common.{◌≡◌, ℕ, zero, suc, ◌+◌, ◌-◌, ◌<◌, ◌≤◌, inl, inr, ⊎_elim, refl, sym, subst, arith, cond}
use Rattle.std.proofs.Common.{List, [], ◌∷◌, ◌++◌, map, take}
use Rattle.std.proofs.lemmas.Bool.{cases_lt}
use Rattle.std.proofs.lemmas.Int.{ints}
use Rattle.std.proofs.lemmas.List.{map-append}
use Rattle.std.proofs.lemmas.List.Sums.{sum_by-append}
use Rattle.std.specs.Prelude.{count_by, pos, negsuc, ◌+ℤ◌, ◌≤ℤ◌}
use Rattle.summary_law.proofs.CountLaws.{kept_counts, lowered_counts, raised_counts}
use Rattle.summary_law.specs.Count.{Change, raises, lowers, keeps, is_raise, is_lower, total}
use Rattle.summary_law.specs.declared.count.Count.{Count}
use Rattle.event_core.specs.declared.handle.HandleChange.{HandleChange}
use Rattle.event_core.specs.declared.handle.HandleChange.TheVariants.{Raise, Lower}
use Rattle.event_core.specs.declared.strength.Strength.{Strength}
use Rattle.event_core.specs.declared.strength.Strength.TheVariants.{Strong, Weak}
use Rattle.handle_ledger.specs.Handles.{handle_change, handle_count_change}
use Rattle.listing_tables.specs.Generations.{CountsEffect, GenerationSum, TakenSum, TakesOneMore}
use Rattle.listing_tables.specs.declared.generations.Effect.TheVariants.{Takes}
use Rattle.listing_tables.specs.declared.generations.Generation.{Generation}
use Rattle.listing_tables.specs.declared.generations.Taken.{Taken}

module _ (old new : Taken) (changes : List Change) (sum : TakenSum old changes) where
  pub raised_taken : new.raised ≡ old.raised + 1 → new.lowered ≡ old.lowered
      → new.left ≡ old.left + 1 → TakenSum new (changes ++ raises ∷ [])
  raised_taken raised lowered left =
      let count : Count = record { sum = sum.count.sum +ℤ pos 1; low = sum.count.low } in
      let up = sum_by-append (λ c. cond (is_raise c) 1 0) changes (raises ∷ []) in
      let down = sum_by-append (λ c. cond (is_lower c) 1 0) changes (raises ∷ []) in
      let raised_before = sum.raised in
      let lowered_before = sum.lowered in
      let left_before = sum.left in
      record {
        raised = omega (arith, raised, raised_before, up);
        lowered = omega (arith, lowered, lowered_before, down);
        count = count;
        counts = raised_counts sum.count count refl refl changes sum.counts;
        left = omega (arith, ints);
      }

  pub lowered_taken : new.raised ≡ old.raised → new.lowered ≡ old.lowered + 1
      → new.left ≡ old.left - 1 → TakenSum new (changes ++ lowers ∷ [])
  lowered_taken raised lowered left =
      let up = sum_by-append (λ c. cond (is_raise c) 1 0) changes (lowers ∷ []) in
      let down = sum_by-append (λ c. cond (is_lower c) 1 0) changes (lowers ∷ []) in
      let raised_before = sum.raised in
      let lowered_before = sum.lowered in
      let left_before = sum.left in
      let raised_now : new.raised ≡ count_by is_raise (changes ++ lowers ∷ []) = omega (arith, raised, raised_before, up) in
      let lowered_now : new.lowered ≡ count_by is_lower (changes ++ lowers ∷ []) = omega (arith, lowered, lowered_before, down) in
      ⊎_elim
      (λ (none : old.left < 1).
      let count : Count = record { sum = sum.count.sum +ℤ negsuc 0; low = sum.count.sum +ℤ negsuc 0 } in
      record {
        raised = raised_now;
        lowered = lowered_now;
        count = count;
        counts = lowered_counts sum.count count refl (inr refl) (omega (arith, ints)) (omega (arith, ints)) changes sum.counts;
        left = omega (arith, ints);
      })
      (λ (some : 1 ≤ old.left).
      let count : Count = record { sum = sum.count.sum +ℤ negsuc 0; low = sum.count.low } in
      record {
        raised = raised_now;
        lowered = lowered_now;
        count = count;
        counts = lowered_counts sum.count count refl (inl refl) (omega (arith, ints)) (omega (arith, ints)) changes sum.counts;
        left = omega (arith, ints);
      })
      (cases_lt old.left 1)

-- a change of the other count changes nothing
pub kept_taken : (taken : Taken) (changes : List Change) → TakenSum taken changes → TakenSum taken (changes ++ keeps ∷ [])
kept_taken taken changes sum =
    let up = sum_by-append (λ c. cond (is_raise c) 1 0) changes (keeps ∷ []) in
    let down = sum_by-append (λ c. cond (is_lower c) 1 0) changes (keeps ∷ []) in
    let raised = sum.raised in
    let lowered = sum.lowered in
    record {
      raised = omega (arith, raised, up);
      lowered = omega (arith, lowered, down);
      count = sum.count;
      counts = kept_counts sum.count changes sum.counts;
      left = sum.left;
    }

least_none : (n : ℕ) → pos 0 ≤ℤ total (take n [])
least_none zero = omega (arith, ints)
least_none (suc n) = omega (arith, ints)

pub none_taken : TakenSum (record { raised = 0; lowered = 0; left = 0 }) []
none_taken = record {
  raised = refl;
  lowered = refl;
  count = record { sum = pos 0; low = pos 0 };
  counts = record { sum = omega (arith, ints); reached = (0, omega arith, omega (arith, ints)); least = λ n within. least_none n };
  left = omega (arith, ints);
}

pub raise_more : (old new : Taken) (change : HandleChange) → change ≡ Raise → new.raised ≡ old.raised + 1
    → new.lowered ≡ old.lowered → new.left ≡ old.left + 1 → TakesOneMore old (handle_count_change change) new
raise_more old new change is raised lowered left changes sum =
    subst (λ (h : HandleChange). TakenSum new (changes ++ handle_count_change h ∷ [])) (sym is)
    (raised_taken old new changes sum raised lowered left)

pub lower_more : (old new : Taken) (change : HandleChange) → change ≡ Lower → new.raised ≡ old.raised
    → new.lowered ≡ old.lowered + 1 → new.left ≡ old.left - 1 → TakesOneMore old (handle_count_change change) new
lower_more old new change is raised lowered left changes sum =
    subst (λ (h : HandleChange). TakenSum new (changes ++ handle_count_change h ∷ [])) (sym is)
    (lowered_taken old new changes sum raised lowered left)

-- ---- generations

changes_more : (strength : Strength) (items : List (Strength × HandleChange)) (item : Strength × HandleChange)
    → map (handle_change strength) items ++ handle_change strength item ∷ [] ≡ map (handle_change strength) (items ++ item ∷ [])
changes_more strength items item = sym (map-append (handle_change strength) items (item ∷ []))

pub counts_strong : (old new : Generation) (change : HandleChange) → TakesOneMore old.strong (handle_count_change change) new.strong
    → new.weak ≡ old.weak → CountsEffect old (Takes Strong change) new
counts_strong old new change taken same items sums =
    let item : Strength × HandleChange = (Strong, change) in
    record {
      strong = subst (TakenSum new.strong) (changes_more Strong items item)
          (taken (map (handle_change Strong) items) sums.strong);
      weak = subst (λ (t : Taken). TakenSum t (map (handle_change Weak) (items ++ item ∷ []))) (sym same)
          (subst (TakenSum old.weak) (changes_more Weak items item) (kept_taken old.weak (map (handle_change Weak) items) sums.weak));
    }

pub counts_weak : (old new : Generation) (change : HandleChange) → TakesOneMore old.weak (handle_count_change change) new.weak
    → new.strong ≡ old.strong → CountsEffect old (Takes Weak change) new
counts_weak old new change taken same items sums =
    let item : Strength × HandleChange = (Weak, change) in
    record {
      strong = subst (λ (t : Taken). TakenSum t (map (handle_change Strong) (items ++ item ∷ []))) (sym same)
          (subst (TakenSum old.strong) (changes_more Strong items item) (kept_taken old.strong (map (handle_change Strong) items) sums.strong));
      weak = subst (TakenSum new.weak) (changes_more Weak items item)
          (taken (map (handle_change Weak) items) sums.weak);
    }

-- a generation with the same counts has those of the same items
pub same_counts : (old new : Generation) (items : List (Strength × HandleChange)) → new.strong ≡ old.strong → new.weak ≡ old.weak
    → GenerationSum old items → GenerationSum new items
same_counts old new items strong weak sums = record {
  strong = subst (λ (t : Taken). TakenSum t (map (handle_change Strong) items)) (sym strong) sums.strong;
  weak = subst (λ (t : Taken). TakenSum t (map (handle_change Weak) items)) (sym weak) sums.weak;
}
