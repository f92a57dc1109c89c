use Rattle.std.proofs.Common.{◌≡◌, ◌+◌, ◌++◌, ◌∷◌, [], map, take, take_all, ap, sym, subst, ◌∙◌, arith, rules}
use Rattle.std.proofs.lemmas.List.{flat_map_more, length-map, take_more}
use Rattle.std.proofs.lemmas.List.Sorted.{IsNonDecreasingBy-from_sort_by_key, IsPermutation-map}
use Rattle.std.proofs.lemmas.Option.{get_or_from_slice_get, slice_get_within}
use Rattle.std.specs.List.Sorted.{IsPermutation}
use Rattle.std.specs.Map.{values_of}
use Rattle.listing_tables.specs.Calls.{row_of_call, rows_of, call_place}
use Rattle.listing_tables.specs.Steps.{rows_of_lists}
use Rattle.listing_tables.proofs.calls.all_calls.Goals as goal

pub loop-at-preserved : goal.loop-at-preserved
loop-at-preserved c =
    let lists = values_of c.args.threads.now.entries.entries in
    let at = c.loop-at.at in
    let list = c.index.result.now in
    let so_far = take at lists in
    let more : take (at + 1) lists ≡ so_far ++ list ∷ []
    = take_more lists at list (slice_get_within lists at list c.index.ensures)
    ∙ ap (λ x. so_far ++ x ∷ []) (get_or_from_slice_get lists at list list c.index.ensures) in
    c.in_ok-take_calls.ensures ∙ ap (λ x. x ++ rows_of c.as_slice.result.now) c.loop-at.invariant
    ∙ ap (λ x. rows_of_lists so_far ++ rows_of x) c.as_slice.ensures.value ∙ flat_map_more (λ v. rows_of v.list.items) [] so_far list
    ∙ ap rows_of_lists (sym more)

pub returns-clause-moved : goal.returns-clause-moved
returns-clause-moved c =
    let lists = values_of c.args.threads.now.entries.entries in
    let past = c.loop-at-test.false in
    let end = c.loop-at.auto.at-end in
    let long = length-map c.args.threads.now.entries.entries (λ e. e.1) in
    let all : map row_of_call c.loop-at.calls.all.items ≡ rows_of_lists lists
    = c.loop-at.invariant ∙ ap rows_of_lists (take_all c.loop-at.at lists (omega (arith, past, end, long, c.len-at-end.ensures.len))) in
    subst (λ l. IsPermutation l (map row_of_call c.sort_unstable_by_key.new.self.items)) all
    (IsPermutation-map row_of_call c.loop-at.calls.all.items c.sort_unstable_by_key.new.self.items c.sort_unstable_by_key.ensures.permutation)

pub returns-clause-sorted : goal.returns-clause-sorted
returns-clause-sorted c = IsNonDecreasingBy-from_sort_by_key call_place _ c.sort_unstable_by_key.ensures.sorted (λ a r q k. search rules)
