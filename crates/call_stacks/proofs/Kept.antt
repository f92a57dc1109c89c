-- What is kept of calls, one after another and in the order of their places.
use Rattle.std.proofs.Common.{◌≡◌, ℕ, ◌<◌, Bool, true, false, ◌&&◌, refl, sym, ap₂, subst, List, ◌++◌}
use Rattle.std.proofs.lemmas.List.Elements.{filter-append}
use Rattle.std.proofs.lemmas.List.Kept.{AllPairs-filter}
use Rattle.std.proofs.lemmas.List.Sorted.{IsPermutation-append, IsPermutation-filter_both, IsPermutation-refl, IsPermutation-trans}
use Rattle.std.proofs.Math.Bool.{not-not}
use Rattle.std.specs.List.{filter}
use Rattle.std.specs.List.Sorted.{IsPermutation, IsNonDecreasingBy}
use Rattle.call_stacks.specs.declared.opener.Opener.{Opener}
use Rattle.call_stacks.specs.declared.verdict.Verdict.{Verdict}
use Rattle.call_stacks.specs.declared.verdict.Verdict.TheVariants.{Open}
use Rattle.call_stacks.specs.Calls.{with_verdict, kept_of}
use Rattle.call_stacks.specs.Verdicts.{is_open, is_closed, lacks_reply}
use Rattle.summary_law.proofs.FilterLaws.{filter_swap, filter_twice}
use Rattle.summary_law.proofs.Members.{Rises, in_place, pairs_from_rises, rises_from_pairs}

rises-filter : {X : Type 0} (rank : X → ℕ) (test : X → Bool) (xs : List X) → Rises rank xs → Rises rank (filter test xs)
rises-filter rank test xs rises =
    rises_from_pairs rank (filter test xs) (AllPairs-filter (λ x y. rank x < rank y) test xs (pairs_from_rises rank xs rises))

-- an open call lacks its reply
open_lacks : (verdict : Verdict) → is_open verdict ≡ (lacks_reply verdict && is_open verdict)
open_lacks Open = refl
open_lacks _ = refl

module _ {E : Type 0} where
  pub kept-append : (all_kept : Bool) (first second : List (Opener E)) → kept_of all_kept (first ++ second) ≡ kept_of all_kept first ++ kept_of all_kept second
  kept-append true first second = refl
  kept-append false first second = filter-append (λ (o : Opener E). lacks_reply o.verdict) first second

  abbrev is_closed_call : Opener E → Bool
  is_closed_call call = is_closed call.verdict

  abbrev is_open_call : Opener E → Bool
  is_open_call call = is_open call.verdict

  -- the calls that are kept are the closed ones that are kept and the open ones
  parted : (all_kept : Bool) (calls : List (Opener E))
      → IsPermutation (kept_of all_kept calls) (kept_of all_kept (with_verdict is_closed calls) ++ with_verdict is_open calls)
  parted true calls = IsPermutation-filter_both is_closed_call is_open_call (λ call. sym (not-not (is_open call.verdict))) calls
  parted false calls =
      let lacks : Opener E → Bool = λ call. lacks_reply call.verdict in
      subst (IsPermutation (filter lacks calls))
      (ap₂ (λ (xs ys : List (Opener E)). xs ++ ys) (filter_swap is_closed_call lacks calls)
      (filter_twice is_open_call lacks is_open_call (λ call. open_lacks call.verdict) calls))
      (IsPermutation-filter_both is_closed_call is_open_call (λ call. sym (not-not (is_open call.verdict))) (filter lacks calls))

  kept_rises : (rank : Opener E → ℕ) (all_kept : Bool) (calls : List (Opener E)) → Rises rank calls → Rises rank (kept_of all_kept calls)
  kept_rises rank true calls rises = rises
  kept_rises rank false calls rises = rises-filter rank (λ (o : Opener E). lacks_reply o.verdict) calls rises

  -- the closed calls that are kept and the open ones, sorted, are the calls that are kept
  pub kept_in_place : (rank : Opener E → ℕ) (all_kept : Bool) (calls closed left sorted : List (Opener E)) → Rises rank calls
      → IsPermutation (kept_of all_kept (with_verdict is_closed calls)) closed → left ≡ with_verdict is_open calls
      → IsPermutation (closed ++ left) sorted → IsNonDecreasingBy rank sorted → sorted ≡ kept_of all_kept calls
  kept_in_place rank all_kept calls closed left sorted rises closed_are left_are moved order =
      let kept = kept_of all_kept (with_verdict is_closed calls) in
      let open_ones = with_verdict is_open calls in
      let both : IsPermutation (kept ++ open_ones) (closed ++ left)
      = subst (λ (l : List (Opener E)). IsPermutation (kept ++ open_ones) (closed ++ l)) (sym left_are)
      (IsPermutation-append kept closed open_ones open_ones closed_are (IsPermutation-refl open_ones)) in
      sym (in_place rank (kept_of all_kept calls) sorted (kept_rises rank all_kept calls rises)
      (IsPermutation-trans (kept_of all_kept calls) (kept ++ open_ones) sorted (parted all_kept calls)
      (IsPermutation-trans (kept ++ open_ones) (closed ++ left) sorted both moved)) order)
