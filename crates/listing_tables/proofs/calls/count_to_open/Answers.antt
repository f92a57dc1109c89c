use Rattle.std.proofs.Common.{◌≡◌, ℕ, ◌+◌, ◌-◌, ◌<◌, ◌≤◌, true, false, List, get_or, length, map, take, sym, ap, ◌∙◌, arith}
use Rattle.std.specs.Option.{option_map}
use Rattle.listing_tables.specs.Calls.{closer_place, innermost, is_open_until, last_call, row_of_call}
use Rattle.listing_tables.specs.declared.calls.Call.{Call}
use Rattle.listing_tables.proofs.NestLaws.{last_of_more, last_open, rows_more, without_closed}
use Rattle.listing_tables.proofs.calls.count_to_open.Goals as goal

-- the last of the first n calls can be left out if it is closed
left_out : (calls : List Call) (place n at : ℕ) (d : Call) → 0 < n → n ≤ length calls → place ≤ at
    → is_open_until place (closer_place (get_or calls (n - 1) d)) ≡ false
    → innermost at (map row_of_call (take n calls)) ≡ innermost at (map row_of_call calls)
    → innermost at (map row_of_call (take (n - 1) calls)) ≡ innermost at (map row_of_call calls)
left_out calls place n at d some few later closed before =
    let i = n - 1 in
    let next : i + 1 ≡ n = omega (arith, some) in
    let inside : i < length calls = omega (arith, some, few) in
    sym (without_closed place at (map row_of_call (take i calls)) (row_of_call (get_or calls i d)) later closed)
    ∙ ap (innermost at) (sym (rows_more calls i d inside)) ∙ ap (λ k. innermost at (map row_of_call (take k calls))) next ∙ before

-- it is the one if it is open
is_last : (calls : List Call) (place n : ℕ) (d : Call) → 0 < n → n ≤ length calls
    → is_open_until place (closer_place (get_or calls (n - 1) d)) ≡ true
    → innermost place (map row_of_call (take n calls)) ≡ innermost place (map row_of_call calls)
    → innermost place (map row_of_call calls) ≡ option_map row_of_call (last_call (take (n - 1 + 1) calls))
is_last calls place n d some few is_open before =
    let i = n - 1 in
    let next : i + 1 ≡ n = omega (arith, some) in
    let inside : i < length calls = omega (arith, some, few) in
    sym before ∙ sym (ap (λ k. innermost place (map row_of_call (take k calls))) next)
    ∙ ap (innermost place) (rows_more calls i d inside)
    ∙ last_open place (map row_of_call (take i calls)) (row_of_call (get_or calls i d)) is_open
    ∙ sym (ap (option_map row_of_call) (last_of_more calls i d inside))

pub loop-number-preserved : goal.loop-number-preserved
loop-number-preserved c = λ at later.
    left_out c.args.calls.now c.args.place c.loop-number.number at _ c.loop-number-test.true c.loop-number.auto.number later
    (sym c.is_open_until.ensures ∙ c.if-is_open_until.false) (c.loop-number.invariant at later)

pub returns-then-is_open_until-clause-top : goal.returns-then-is_open_until-clause-top
returns-then-is_open_until-clause-top c =
    is_last c.args.calls.now c.args.place c.loop-number.number _ c.loop-number-test.true c.loop-number.auto.number
    (sym c.is_open_until.ensures ∙ c.if-is_open_until.true) (c.loop-number.invariant c.args.place (omega arith))
