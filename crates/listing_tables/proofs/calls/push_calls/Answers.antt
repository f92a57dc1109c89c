use Rattle.std.proofs.Common.{◌≡◌, ℕ, ◌+◌, ◌<◌, ◌≤◌, List, ◌++◌, ◌∷◌, [], length, get_or, map, take, ap, sym, ◌∙◌, append_assoc, Option, arith}
use Rattle.std.proofs.lemmas.List.{map-append, take_more}
use Rattle.std.specs.Option.{option_or}
use Rattle.call_stacks.specs.declared.opener.Opener.{Opener}
use Rattle.listing_tables.specs.Calls.{CallRow, if_open, innermost, nested_after, row_of_call, row_of_opener, within}
use Rattle.listing_tables.specs.declared.calls.Call.{Call}
use Rattle.listing_tables.specs.declared.calls.CallStep.{CallStep}
use Rattle.listing_tables.proofs.NestLaws.{innermost_more, nested_more}
use Rattle.listing_tables.proofs.calls.push_calls.Goals as goal

-- the calls of the first openers
abbrev so_far : List (Opener CallStep) → ℕ → List CallRow
so_far openers i = nested_after [] (map row_of_opener (take i openers))

-- that of the next opener
abbrev next_call : List (Opener CallStep) → ℕ → Opener CallStep → CallRow
next_call openers i d =
    let row = row_of_opener (get_or openers i d) in
    within (innermost row.place (so_far openers i)) row

one_more : (openers : List (Opener CallStep)) (i : ℕ) (d : Opener CallStep) → i < length openers
    → so_far openers (i + 1) ≡ so_far openers i ++ next_call openers i d ∷ []
one_more openers i d inside =
    let opener = get_or openers i d in
    ap (λ l. nested_after [] (map row_of_opener l)) (take_more openers i d inside)
    ∙ ap (nested_after []) (map-append row_of_opener (take i openers) (opener ∷ []))
    ∙ nested_more [] (map row_of_opener (take i openers)) (row_of_opener opener)

-- one more call of the table, which is that of the next opener
row_more : (first : List CallRow) (calls new : List Call) (openers : List (Opener CallStep)) (i : ℕ) (d : Opener CallStep) (call : Call)
    → i < length openers → map row_of_call calls ≡ first ++ so_far openers i → new ≡ calls ++ call ∷ []
    → row_of_call call ≡ next_call openers i d → map row_of_call new ≡ first ++ so_far openers (i + 1)
row_more first calls new openers i d call inside before pushed is =
    ap (map row_of_call) pushed ∙ map-append row_of_call calls (call ∷ []) ∙ ap (λ x. x ++ row_of_call call ∷ []) before
    ∙ ap (λ r. (first ++ so_far openers i) ++ r ∷ []) is ∙ append_assoc first (so_far openers i) (next_call openers i d ∷ [])
    ∙ ap (λ x. first ++ x) (sym (one_more openers i d inside))

-- one more call on the stack
stack_more : (at : ℕ) (stack new : List Call) (openers : List (Opener CallStep)) (i : ℕ) (d : Opener CallStep) (call : Call)
    → i < length openers → innermost at (map row_of_call stack) ≡ innermost at (so_far openers i) → new ≡ stack ++ call ∷ []
    → row_of_call call ≡ next_call openers i d → innermost at (map row_of_call new) ≡ innermost at (so_far openers (i + 1))
stack_more at stack new openers i d call inside before pushed is =
    ap (λ l. innermost at (map row_of_call l)) pushed ∙ ap (innermost at) (map-append row_of_call stack (call ∷ []))
    ∙ innermost_more at (map row_of_call stack) (row_of_call call)
    ∙ ap (λ (o : Option CallRow). option_or (if_open at (row_of_call call)) o) before
    ∙ ap (λ (r : CallRow). option_or (if_open at r) (innermost at (so_far openers i))) is
    ∙ sym (innermost_more at (so_far openers i) (next_call openers i d)) ∙ ap (innermost at) (sym (one_more openers i d inside))

-- it is within the one that the stack gives
is_next : (stack : List Call) (openers : List (Opener CallStep)) (i least : ℕ) (d : Opener CallStep) (one call : Call)
    → row_of_call one ≡ row_of_opener (get_or openers i d)
    → row_of_call call ≡ within (innermost one.place (map row_of_call stack)) (row_of_call one)
    → ((at : ℕ) → least ≤ at → innermost at (map row_of_call stack) ≡ innermost at (so_far openers i)) → least ≤ one.place
    → row_of_call call ≡ next_call openers i d
is_next stack openers i least d one call is nested before later =
    nested ∙ ap (λ (o : Option CallRow). within o (row_of_call one)) (before one.place later)
    ∙ ap (λ (r : CallRow). within (innermost r.place (so_far openers i)) r) is

pub loop-opener-preserved : goal.loop-opener-preserved
loop-opener-preserved c =
    let calls = c.loop-opener.calls.all.items in
    let stack = c.loop-opener.stack.items in
    let i = c.loop-opener.opener-index in
    let one = c.in_ok-call_of.field-0 in
    let call = c.in_ok-call.call in
    let same : call.place ≡ one.place = ap (λ (r : CallRow). r.place) c.in_ok-call.ensures.nested in
    let later : c.loop-opener.least ≤ one.place = omega (arith, same, c.if-call-least.false) in
    let is = is_next stack c.args.openers.now i c.loop-opener.least _ one call c.in_ok-call_of.ensures c.in_ok-call.ensures.nested
    c.loop-opener.invariant.stack later in
    record {
      rows = row_more (map row_of_call c.args.calls.now.all.items) calls c.push.new.self.all.items c.args.openers.now i _ call
          c.loop-opener-test.true c.loop-opener.invariant.rows c.in_ok-push.ensures.last is;
      stack = λ at after. stack_more at c.nested.new.stack.items c.push-in-loop-opener.new.self.items c.args.openers.now i _ call
          c.loop-opener-test.true
          (c.in_ok-call.ensures.kept at (omega (arith, same, after))
          ∙ c.loop-opener.invariant.stack at (omega (arith, same, later, after)))
          c.in_ok-push-2.ensures.items is;
    }
