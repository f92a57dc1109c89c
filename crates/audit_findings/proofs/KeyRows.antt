-- Rows, one for each key of a list, and how often a key is in a list that is read from events.
use Rattle.std.proofs.Common.{◌≡◌, ◌↔◌, ℕ, ◌<◌, Bool, true, false, cond, ◌&&◌, List, [], ◌∷◌, filter_map, map, Option, Some, None, inl, inr, refl, sym, ap, subst, ◌∙◌, arith}
use Rattle.std.specs.Cmp.{IsTotalOrder}
use Rattle.std.specs.List.{cons_option}
use Rattle.std.specs.List.Sorted.{IsStrictlySortedBy}
use Rattle.std.specs.Option.{option_map_or}
use Rattle.std.specs.Prelude.{Contains, count_by}
use Rattle.std.specs.declared.cmp.Ordering.{Ordering}
use Rattle.std.specs.declared.cmp.Ordering.TheVariants.{Equal}
use Rattle.std.proofs.lemmas.List.Sums.{sum_by-cons}
use Rattle.capture_frame.specs.Process.{same_process}
use Rattle.capture_frame.specs.declared.process.Process.{Process}
use Rattle.event_core.specs.Events.{EventRead, process_of}
use Rattle.process_ledgers.specs.Processes.{items_of_process}
use Rattle.summary_law.proofs.Members.{In, contained, in-map, in_list, map-in}
use Rattle.summary_law.proofs.SortedLaws.{in_sorted, sorted_in, strictly_sorted}
use Rattle.summary_law.specs.Sorted.{sorted}
use Rattle.audit_findings.specs.EventCounts.{times_in}
use Rattle.audit_findings.proofs.EventCountLaws.{read_kept}

-- ---- how many

-- how many of the things that are read pass a test
pub count_read : {X Y : Type 0} (test : Y → Bool) (read : X → Option Y) (xs : List X)
    → count_by test (filter_map read xs) ≡ count_by (λ x. option_map_or test (read x) false) xs
count_read test read [] = refl
count_read {X} {Y} test read (x ∷ xs) =
    let one : X → ℕ = λ x. cond (option_map_or test (read x) false) 1 0 in
    let rest = count_read test read xs in
    let whole = sum_by-cons one x xs in
    elim (read x) as (λ o. (read x ≡ o) → count_by test (cons_option o (filter_map read xs)) ≡ count_by (λ x. option_map_or test (read x) false) (x ∷ xs)) [
      | None ↦ λ is.
          let none : one x ≡ 0 = ap (λ (o : Option Y). cond (option_map_or test o false) 1 0) is in
          omega (arith, rest, whole, none)
      | Some y ↦ λ is.
          let same : one x ≡ cond (test y) 1 0 = ap (λ (o : Option Y). cond (option_map_or test o false) 1 0) is in
          let read_too = sum_by-cons (λ (y : Y). cond (test y) 1 0) y (filter_map read xs) in
          omega (arith, rest, whole, same, read_too)
    ] refl

-- how many items of a process pass a test is how many of its events do, among all events
pub count_items : {I : Type 0} (read : EventRead → Option I) (test : I → Bool) (names : EventRead → Bool)
    → ((e : EventRead) → option_map_or test (read e) false ≡ names e) → (process : Process) (events : List EventRead)
    → count_by test (items_of_process read process events) ≡ times_in process names events
count_items {I} read test names same process events =
    let own : EventRead → Bool = λ e. same_process process (process_of e) in
    let pointwise : (e : EventRead) → option_map_or test (cond (own e) (read e) None) false ≡ (own e && names e) = λ e.
    elim (own e) as (λ b. option_map_or test (cond b (read e) None) false ≡ (b && names e)) [ true ↦ same e | false ↦ refl ] in
    ap (count_by test) (read_kept own read events) ∙ count_read test (λ e. cond (own e) (read e) None) events
    ∙ ap (λ (t : EventRead → Bool). count_by t events) (λ i e. pointwise e i)

-- an element that passes a test is in the list if and only if some pass
pub in_counted : {X : Type 0} (test : X → Bool) (x : X) → ((y : X) → test y ≡ true → y ≡ x) → (xs : List X) → 0 < count_by test xs → In x xs
in_counted test x only [] some = absurd (omega (arith, some))
in_counted {X} test x only (y ∷ xs) some =
    let one : X → ℕ = λ y. cond (test y) 1 0 in
    let whole = sum_by-cons one y xs in
    elim (test y) as (λ b. (test y ≡ b) → In x (y ∷ xs)) [
      | true ↦ λ is. inl (sym (only y is))
      | false ↦ λ is.
          let none : one y ≡ 0 = ap (λ (b : Bool). cond b 1 0) is in
          inr (in_counted test x only xs (omega (arith, some, whole, none)))
    ] refl

pub counted_in : {X : Type 0} (test : X → Bool) (x : X) → test x ≡ true → (xs : List X) → In x xs → 0 < count_by test xs
counted_in test x passes [] here = absurd here
counted_in {X} test x passes (y ∷ xs) (inl same) =
    let one : X → ℕ = λ y. cond (test y) 1 0 in
    let whole = sum_by-cons one y xs in
    let here : one y ≡ 1 = ap (λ (b : Bool). cond b 1 0) (ap test (sym same) ∙ passes) in
    omega (arith, whole, here)
counted_in {X} test x passes (y ∷ xs) (inr there) =
    let one : X → ℕ = λ y. cond (test y) 1 0 in
    let whole = sum_by-cons one y xs in
    let rest = counted_in test x passes xs there in
    omega (arith, whole, rest)

-- ---- a row for each key

module _ {K R : Type 0} (cmp : K → K → Ordering) (laws : IsTotalOrder cmp) (exact : (x y : K) → cmp x y ≡ Equal → x ≡ y) (key : R → K) (row : K → R)
    (own_key : (k : K) → key (row k) ≡ k) (keys : List K) where
  keys_again : (ks : List K) → map key (map row ks) ≡ ks
  keys_again [] = refl
  keys_again (k ∷ ks) = λ i. own_key k i ∷ keys_again ks i

  pub rows_rising : IsStrictlySortedBy cmp (map key (map row (sorted cmp keys)))
  rows_rising = subst (IsStrictlySortedBy cmp) (sym (keys_again (sorted cmp keys))) (strictly_sorted cmp laws keys)

  pub rows_exact : (Is : R → Type 0) → ((k : K) → In k keys → Is (row k)) → ((r : R) → Is r → In (key r) keys × (row (key r) ≡ r))
      → (r : R) → Contains (map row (sorted cmp keys)) r ↔ Is r
  rows_exact Is sound whole r = (
    λ there.
        let found = in-map row (sorted cmp keys) r (in_list (map row (sorted cmp keys)) r there) in
        subst Is (sym found.2) (sound found.0 (in_sorted cmp keys found.0 found.1)),
    λ is.
        let both = whole r is in
        subst (Contains (map row (sorted cmp keys))) both.1
        (contained (map row (sorted cmp keys)) (row (key r))
        (map-in row (sorted cmp keys) (key r) (sorted_in cmp keys (λ a b at_a at_b same. exact a b same) (key r) both.0))),
  )
