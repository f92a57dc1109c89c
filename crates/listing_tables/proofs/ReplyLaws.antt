-- Each reply and each error reply of a thread closes a call, is a stray, or reports a refused send.
use Rattle.std.proofs.Common.{◌≡◌, ℕ, ◌||◌, Bool, true, false, cond, Option, Some, None, refl, sym, ap, ap₂, subst, ◌∙◌}
use Rattle.std.proofs.Common.{List, [], ◌∷◌, ◌++◌, map, append_assoc}
use Rattle.std.proofs.lemmas.Bool.{true≢false}
use Rattle.std.proofs.lemmas.List.{map-append}
use Rattle.std.proofs.lemmas.List.Sorted.{IsPermutation-append_left, IsPermutation-cons, IsPermutation-map, IsPermutation-middle, IsPermutation-refl, IsPermutation-sym, IsPermutation-trans}
use Rattle.std.specs.List.{cons_option, filter, filter_map}
use Rattle.std.specs.List.Sorted.{IsPermutation}
use Rattle.binder_code.specs.declared.record_kind.Kind.{Kind}
use Rattle.binder_code.specs.declared.record_kind.Kind.TheVariants.{BcTransaction, BcTransactionSg, BrTransaction, BrTransactionSecCtx, BrDeadReply, BrFailedReply, BrFrozenReply}
use Rattle.event_core.specs.Brackets.{bracket_of, error_reply}
use Rattle.event_core.specs.declared.marks.Bracket.{Bracket}
use Rattle.event_core.specs.declared.marks.Bracket.TheVariants.{Call, Served, Reply, Sent, Error, Refused, Neither}
use Rattle.event_core.specs.declared.marks.Mark.{Mark}
use Rattle.event_core.specs.declared.marks.Mark.TheVariants.{Oneway, SentReply, Other}
use Rattle.call_stacks.specs.Calls.{Bracketed, bracket_read, bracketed_of, bracketed_with, is_oneway_mark, is_refused, mark_after, refused_of}
use Rattle.call_stacks.specs.Matching.{Side, opener, closer, neither, is_closer}
use Rattle.call_stacks.specs.Verdicts.{side_of}
use Rattle.call_stacks.specs.declared.findings.RefusedSend.{RefusedSend}
use Rattle.call_stacks.proofs.Bracketing.{pair, side}
use Rattle.call_stacks.proofs.Found.{openers-found, strays-found}
use Rattle.call_stacks.proofs.Lists.{event_of, found}
use Rattle.call_stacks.proofs.Model.{both, entry, openers, openers-map, put, strays, strays-map}
use Rattle.call_stacks.specs.Calls.{openers_of}
use Rattle.listing_tables.proofs.NestLaws.{nested_closers}
use Rattle.listing_tables.specs.Calls.{closers_in, is_reply_step, refusals_of, row_of_opener, rows_of, step_place, step_reads, strays_of}
use Rattle.listing_tables.specs.declared.calls.CallStep.{CallStep}

-- ---- lists

-- what passes one test or another one, where nothing passes both
one_of_both : {X : Type 0} (a b : Bool) (x : X) (both first second : List X) → (a ≡ true → b ≡ false) → IsPermutation both (first ++ second)
    → IsPermutation (cond (a || b) (x ∷ both) both) (cond a (x ∷ first) first ++ cond b (x ∷ second) second)
one_of_both true true x both first second apart same = absurd (true≢false (apart refl))
one_of_both true false x both first second apart same = IsPermutation-cons x both (first ++ second) same
one_of_both false true x both first second apart same =
    IsPermutation-trans (x ∷ both) (x ∷ (first ++ second)) (first ++ x ∷ second) (IsPermutation-cons x both (first ++ second) same)
    (IsPermutation-sym (first ++ x ∷ second) (x ∷ (first ++ second)) (IsPermutation-middle first x second))
one_of_both false false x both first second apart same = same

in_two : {X : Type 0} (p q : X → Bool) → ((x : X) → p x ≡ true → q x ≡ false) → (xs : List X)
    → IsPermutation (filter (λ x. p x || q x) xs) (filter p xs ++ filter q xs)
in_two p q apart [] = IsPermutation-refl []
in_two p q apart (x ∷ xs) =
    one_of_both (p x) (q x) x (filter (λ y. p y || q y) xs) (filter p xs) (filter q xs) (apart x) (in_two p q apart xs)

-- ---- closers

one_closer : {A : Type 0} (s : Side) (x : A) (closers later : List A) (calls : List (A × Option A))
    → IsPermutation closers (filter_map (λ p. p.1) calls ++ later)
    → IsPermutation (cond (is_closer s) (x ∷ closers) closers) (filter_map (λ p. p.1) (entry s x later calls) ++ put s x later)
one_closer opener x closers [] calls same = same
one_closer opener x closers (y ∷ later) calls same =
    let matched = filter_map (λ p. p.1) calls in
    IsPermutation-trans closers (matched ++ y ∷ later) (y ∷ (matched ++ later)) same (IsPermutation-middle matched y later)
one_closer closer x closers later calls same =
    let matched = filter_map (λ p. p.1) calls in
    IsPermutation-trans (x ∷ closers) (x ∷ (matched ++ later)) (matched ++ x ∷ later) (IsPermutation-cons x closers (matched ++ later) same)
    (IsPermutation-sym (matched ++ x ∷ later) (x ∷ (matched ++ later)) (IsPermutation-middle matched x later))
one_closer neither x closers later calls same = same

-- each closer is that of an opener, or unmatched
closers_are : {A : Type 0} (own : A → Side) (items : List A)
    → IsPermutation (filter (λ x. is_closer (own x)) items) (filter_map (λ p. p.1) (openers own items) ++ strays own items)
closers_are own [] = IsPermutation-refl []
closers_are own (x ∷ items) =
    one_closer (own x) x (filter (λ y. is_closer (own y)) items) (strays own items) (openers own items) (closers_are own items)

-- ---- records

abbrev Found : Type 0
Found = Bracketed CallStep

abbrev own_side : Found → Side
own_side x = side_of x.bracket

abbrev closes : Found → Bool
closes x = is_closer (own_side x)

abbrev refuses : Found → Bool
refuses x = is_refused x.bracket

abbrev place_in : Found → ℕ
place_in x = step_place x.event

abbrev report_of : Found → RefusedSend CallStep
report_of x = record { event = x.event; oneway = is_oneway_mark x.before }

apart : (b : Bracket) → is_closer (side_of b) ≡ true → is_refused b ≡ false
apart Call e = refl
apart Served e = refl
apart Reply e = refl
apart Sent e = refl
apart Error e = refl
apart Refused e = absurd cc
apart Neither e = refl

no_closer : (b : Bool) (bracket : Bracket) → is_closer (side_of bracket) || is_refused bracket ≡ is_closer (side_of bracket)
    → is_closer (side_of (cond b Neither bracket)) ≡ is_closer (side_of (cond b Neither bracket)) || is_refused (cond b Neither bracket)
no_closer true bracket e = refl
no_closer false bracket e = sym e

error_or : (before : Option Mark) → true ≡ is_closer (side_of (error_reply before)) || is_refused (error_reply before)
error_or None = refl
error_or (Some Oneway) = refl
error_or (Some SentReply) = refl
error_or (Some Other) = refl

-- a record that closes without a mark before it closes, or reports a refused send, after any mark
after_mark : (before : Option Mark) (kind : Kind) (oneway : Bool)
    → is_closer (side_of (bracket_of None kind oneway))
    ≡ is_closer (side_of (bracket_of before kind oneway)) || is_refused (bracket_of before kind oneway)
after_mark before BcTransaction oneway = no_closer oneway Call refl
after_mark before BcTransactionSg oneway = no_closer oneway Call refl
after_mark before BrTransaction oneway = no_closer oneway Served refl
after_mark before BrTransactionSecCtx oneway = no_closer oneway Served refl
after_mark before BrDeadReply oneway = error_or before
after_mark before BrFailedReply oneway = error_or before
after_mark before BrFrozenReply oneway = error_or before
after_mark before _ oneway = refl

one_reply : (b : Bool) (step : CallStep) (x : Found) (steps : List CallStep) (items : List Found) → step_place step ≡ place_in x
    → map step_place steps ≡ map place_in items
    → map step_place (cond b (step ∷ steps) steps) ≡ map place_in (cond b (x ∷ items) items)
one_reply true step x steps items same rest = ap₂ (λ (n : ℕ) (ns : List ℕ). n ∷ ns) same rest
one_reply false step x steps items same rest = rest

replies_in : (before : Option Mark) (steps : List CallStep)
    → map step_place (filter is_reply_step steps)
    ≡ map place_in (filter (λ x. closes x || refuses x) (bracketed_with step_reads (bracket_read step_reads) before steps))
replies_in before [] = refl
replies_in before (step ∷ steps) =
    let later = bracketed_with step_reads (bracket_read step_reads) (mark_after step_reads before step) steps in
    let x : Found = record { event = step; before = before; bracket = bracket_read step_reads before step } in
    let rest = filter is_reply_step steps in
    ap (λ (b : Bool). map step_place (cond b (step ∷ rest) rest)) (after_mark before step.kind step.oneway)
    ∙ one_reply (closes x || refuses x) step x rest (filter (λ y. closes y || refuses y) later) refl (replies_in (mark_after step_reads before step) steps)

refused_in : (items : List Found) → map step_place (map (λ s. s.event) (refused_of items)) ≡ map place_in (filter refuses items)
refused_in [] = refl
refused_in (x ∷ items) =
    elim (is_refused x.bracket) as (λ b.
    map step_place (map (λ s. s.event) (cons_option (cond b (Some (report_of x)) None) (refused_of items)))
    ≡ map place_in (cond b (x ∷ filter refuses items) (filter refuses items))) [
      | true ↦ ap (λ (ns : List ℕ). place_in x ∷ ns) (refused_in items)
      | false ↦ refused_in items
    ]

closers_found : (ps : List (Found × Option Found))
    → closers_in (map row_of_opener (map (found step_reads) (map (both pair) ps))) ≡ map place_in (filter_map (λ p. p.1) ps)
closers_found [] = refl
closers_found ((x, None) ∷ ps) = closers_found ps
closers_found ((x, Some y) ∷ ps) = ap (λ (ns : List ℕ). place_in y ∷ ns) (closers_found ps)

strays_placed : (items : List Found) → map step_place (map event_of (map pair items)) ≡ map place_in items
strays_placed [] = refl
strays_placed (x ∷ items) = ap (λ (ns : List ℕ). place_in x ∷ ns) (strays_placed items)

pub each_reply : (steps : List CallStep)
    → IsPermutation (map step_place (filter is_reply_step steps))
    (closers_in (rows_of steps) ++ map step_place (strays_of steps ++ refusals_of steps))
each_reply steps =
    let items = bracketed_of step_reads steps in
    let matched = filter_map (λ p. p.1) (openers own_side items) in
    let unmatched = strays own_side items in
    let refused = filter refuses items in
    let all : IsPermutation (filter (λ x. closes x || refuses x) items) ((matched ++ unmatched) ++ refused)
    = IsPermutation-trans (filter (λ x. closes x || refuses x) items) (filter closes items ++ refused) ((matched ++ unmatched) ++ refused)
    (in_two closes refuses (λ x. apart x.bracket) items)
    (IsPermutation-append_left refused (filter closes items) (matched ++ unmatched) (closers_are own_side items)) in
    let rows : closers_in (rows_of steps) ≡ map place_in matched
    = nested_closers [] (map row_of_opener (openers_of step_reads steps)) ∙ ap (λ l. closers_in (map row_of_opener l))
    (openers-found step_reads items ∙ ap (map (found step_reads)) (openers-map pair side items))
    ∙ closers_found (openers own_side items) in
    let left : map step_place (strays_of steps) ≡ map place_in unmatched
    = ap (map step_place) (strays-found items ∙ ap (map event_of) (strays-map pair side items)) ∙ strays_placed unmatched in
    let lists : map place_in ((matched ++ unmatched) ++ refused)
    ≡ closers_in (rows_of steps) ++ map step_place (strays_of steps ++ refusals_of steps)
    = ap (map place_in) (append_assoc matched unmatched refused) ∙ map-append place_in matched (unmatched ++ refused)
    ∙ ap₂ (λ (a b : List ℕ). a ++ b) (sym rows)
    (map-append place_in unmatched refused ∙ ap₂ (λ (a b : List ℕ). a ++ b) (sym left) (sym (refused_in items))
    ∙ sym (map-append step_place (strays_of steps) (refusals_of steps))) in
    subst (λ (l : List ℕ). IsPermutation (map step_place (filter is_reply_step steps)) l) lists
    (subst (λ (l : List ℕ). IsPermutation l (map place_in ((matched ++ unmatched) ++ refused))) (sym (replies_in None steps))
    (IsPermutation-map place_in (filter (λ x. closes x || refuses x) items) ((matched ++ unmatched) ++ refused) all))
