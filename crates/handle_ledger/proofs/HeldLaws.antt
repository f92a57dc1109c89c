-- The handles that have a row, and their rows, with the references that deliveries hold.
use Rattle.std.proofs.Common.{◌≡◌, ◌||◌, ◌<◌, ◌+◌, ℕ, suc, Bool, true, false, cond, List, [], ◌∷◌, length, take, map, refl, sym, ap, subst, ◌∙◌, ⊎_elim, arith}
use Rattle.std.proofs.Math.ListN.{get_or}
use Rattle.std.proofs.Math.Seq.{take-suc}
use Rattle.std.proofs.lemmas.Bool.{cases_Bool}
use Rattle.std.proofs.lemmas.Cmp.{eq_by_cmp_equiv, nat_cmp_total, on_total, then_total}
use Rattle.std.proofs.lemmas.List.Elements.{All-head, All-tail}
use Rattle.std.proofs.lemmas.List.Folds.{list_any-append}
use Rattle.std.proofs.lemmas.Map.Lookups.{CmpEqualImpliesEq, exact_pairs, exact_unsigned}
use Rattle.std.specs.BTreeMap.{BTreeMap, IsOrdered}
use Rattle.std.specs.BTreeSet.{BTreeSet, contains, Updates}
use Rattle.std.specs.Cmp.{IsTotalOrder, bool_cmp_total, both_ways}
use Rattle.std.specs.List.{list_any}
use Rattle.std.specs.Map.{keys_of}
use Rattle.std.specs.Ordering.{eq_by_cmp, nat_cmp, bool_cmp, is_eq, ordering_then}
use Rattle.std.specs.declared.cmp.Ordering.TheVariants.{Less, Equal, Greater}
use Rattle.std.specs.Prelude.{All}
use Rattle.event_core.specs.Handles.{HandleItem}
use Rattle.handle_ledger.specs.Handles.{HandleCountsSum}
use Rattle.handle_ledger.specs.Held.{Held, held_cmp}
use Rattle.handle_ledger.specs.declared.handle_counts.HandleCounts.{HandleCounts}
use Rattle.summary_law.proofs.GatherLaws.{has_own, in_any}
use Rattle.summary_law.proofs.Members.{In, in-map, map-in}
use Rattle.summary_law.proofs.SortedLaws.{found_in, has_pair, keys_are, sorted_any}
use Rattle.summary_law.specs.ByKey.{SumsByKey, items_of}
use Rattle.summary_law.specs.Tally.{AreTallyRows, count_of_key}

held_cmp_total : IsTotalOrder held_cmp
held_cmp_total = then_total (on_total (λ (held : Held). held.0) nat_cmp_total) (on_total (λ (held : Held). held.1) bool_cmp_total)

exact_bool : CmpEqualImpliesEq bool_cmp
exact_bool false false same = refl
exact_bool false true same = let no : ⊥ = cc in absurd no
exact_bool true false same = let no : ⊥ = cc in absurd no
exact_bool true true same = refl

held_cmp_exact : CmpEqualImpliesEq held_cmp
held_cmp_exact x y same = exact_pairs nat_cmp bool_cmp exact_unsigned exact_bool x y same

pub or_false : (b : Bool) → b ≡ (b || false)
or_false true = refl
or_false false = refl

either_first : (x a c r : Bool) → x ≡ cond a true c → (x || r) ≡ (c || (a || r))
either_first x true true r e = rw e refl
either_first x true false r e = rw e refl
either_first x false true r e = rw e refl
either_first x false false r e = rw e refl

either_last : (x a c f t : Bool) → x ≡ cond a true c → c ≡ (f || t) → x ≡ (f || (t || (a || false)))
either_last x true c true t e g = rw e refl
either_last x true c false true e g = rw e refl
either_last x true c false false e g = rw e refl
either_last x false c true t e g = e ∙ g
either_last x false c false true e g = e ∙ g
either_last x false c false false e g = e ∙ g

turned : (a b : ℕ) → eq_by_cmp nat_cmp a b ≡ eq_by_cmp nat_cmp b a
turned a b = (eq_by_cmp_equiv nat_cmp_total).symm a b

-- one more key in a set
pub inserted : (old new : BTreeSet ℕ) (k q : ℕ) (rest : Bool) → Updates nat_cmp old new k true
    → (contains nat_cmp new q || rest) ≡ (contains nat_cmp old q || (eq_by_cmp nat_cmp q k || rest))
inserted old new k q rest updates =
    either_first (contains nat_cmp new q) (eq_by_cmp nat_cmp q k) (contains nat_cmp old q) rest
    (updates.0 q ∙ ap (λ b. cond b true (contains nat_cmp old q)) (turned k q))

-- a row of a tally of held references
abbrev pub HeldTallyRow : Type 0
HeldTallyRow = Held × ℕ × ℕ

-- whether the row is of this handle
abbrev pub is_of : ℕ → HeldTallyRow → Bool
is_of handle row = eq_by_cmp nat_cmp handle row.0.0

-- the handle of the next row, once it is in a set
pub next_inserted : (old new : BTreeSet ℕ) (first : Bool) (q : ℕ) (rows : List HeldTallyRow) (i : ℕ) (d : HeldTallyRow) → i < length rows
    → Updates nat_cmp old new (get_or rows i d).0.0 true → contains nat_cmp old q ≡ (first || list_any (is_of q) (take i rows))
    → contains nat_cmp new q ≡ (first || list_any (is_of q) (take (i + 1) rows))
next_inserted old new first q rows i d in' updates before =
    let one : i + 1 ≡ suc i = omega arith in
    let more : list_any (is_of q) (take (i + 1) rows) ≡ (list_any (is_of q) (take i rows) || (is_of q (get_or rows i d) || false))
    = ap (λ n. list_any (is_of q) (take n rows)) one ∙ ap (list_any (is_of q)) (take-suc rows i d in')
    ∙ list_any-append (is_of q) (take i rows) (get_or rows i d ∷ []) in
    either_last (contains nat_cmp new q) (is_of q (get_or rows i d)) (contains nat_cmp old q) first (list_any (is_of q) (take i rows))
    (updates.0 q ∙ ap (λ b. cond b true (contains nat_cmp old q)) (turned (get_or rows i d).0.0 q)) before
    ∙ ap (λ b. first || b) (sym more)

-- the keys of a ledger's map are the handles that its items name
pub named_entries : (m : BTreeMap ℕ HandleCounts) → IsOrdered nat_cmp m → (items : List HandleItem)
    → SumsByKey nat_cmp HandleCountsSum m items → (q : ℕ)
    → list_any (eq_by_cmp nat_cmp q) (keys_of m.entries) ≡ list_any (eq_by_cmp nat_cmp q) (keys_of items)
named_entries m ordered items sums q =
    ap (list_any (eq_by_cmp nat_cmp q)) (keys_are nat_cmp nat_cmp_total exact_unsigned HandleCountsSum m ordered items sums)
    ∙ sorted_any nat_cmp exact_unsigned nat_cmp_total q (keys_of items)

or_true : (b : Bool) → (b || true) ≡ true
or_true true = refl
or_true false = refl

-- keys that compare as equal have the same handle
same_handle : (key other : Held) → eq_by_cmp held_cmp key other ≡ true → eq_by_cmp nat_cmp key.0 other.0 ≡ true
same_handle key other same =
    elim (nat_cmp key.0 other.0) as (λ o. is_eq (ordering_then o (bool_cmp key.1 other.1)) ≡ true → is_eq o ≡ true) [
      | Less ↦ λ h. h
      | Equal ↦ λ h. refl
      | Greater ↦ λ h. h
    ] same

-- the handle of a key among the rows is the handle of some row
found_among : (key : Held) (rows : List HeldTallyRow) → list_any (eq_by_cmp held_cmp key) (map (λ (r : HeldTallyRow). r.0) rows) ≡ true
    → list_any (is_of key.0) rows ≡ true
found_among key [] any = any
found_among key (r ∷ rs) any =
    ⊎_elim
    (λ (same : eq_by_cmp held_cmp key r.0 ≡ true). ap (λ b. b || list_any (is_of key.0) rs) (same_handle key r.0 same))
    (λ (other : eq_by_cmp held_cmp key r.0 ≡ false).
    let rest = found_among key rs (ap (λ b. b || list_any (eq_by_cmp held_cmp key) (map (λ (r : HeldTallyRow). r.0) rs)) (sym other) ∙ any) in
    ap (λ b. is_of key.0 r || b) rest ∙ or_true (is_of key.0 r))
    (cases_Bool (eq_by_cmp held_cmp key r.0))

-- the handles of the rows of a tally are the handles to which references are held
pub held_handles : (held : List (Held × ℕ)) (rows : List HeldTallyRow) → AreTallyRows held_cmp held rows → (q : ℕ)
    → list_any (is_of q) rows ≡ list_any (eq_by_cmp nat_cmp q) (map (λ reference. reference.0.0) held)
held_handles held rows are q =
    both_ways (list_any (is_of q) rows) (list_any (eq_by_cmp nat_cmp q) (map (λ reference. reference.0.0) held))
    (held_among q rows are.keys.came)
    (λ found.
    let reference = in-map (λ (reference : Held × ℕ). reference.0.0) held q (found_in nat_cmp exact_unsigned q (map (λ reference. reference.0.0) held) found) in
    let some = has_own (eq_by_cmp_equiv held_cmp_total) held reference.0 reference.1 in
    ap (λ (h : ℕ). list_any (is_of h) rows) reference.2
    ∙ found_among reference.0.0 rows (are.keys.whole reference.0.0 (some_length (items_of (eq_by_cmp held_cmp) reference.0.0 held) some)))
  where
    some_length : (items : List ℕ) → (items ≡ [] → ⊥) → 0 < length items
    some_length [] some = absurd (some refl)
    some_length (i ∷ is) some = omega arith

    held_among : (q : ℕ) (rows : List HeldTallyRow) → All (λ key. 0 < count_of_key held_cmp key held) (map (λ (r : HeldTallyRow). r.0) rows)
        → list_any (is_of q) rows ≡ true → list_any (eq_by_cmp nat_cmp q) (map (λ reference. reference.0.0) held) ≡ true
    held_among q [] came any = let none : ⊥ = cc in absurd none
    held_among q (r ∷ rs) came any =
        let Came : Held → Type 0 = λ key. 0 < count_of_key held_cmp key held in
        ⊎_elim
        (λ (same : is_of q r ≡ true).
        let here = All-head Came r.0 (map (λ (r : HeldTallyRow). r.0) rs) came in
        let there = has_pair held_cmp held_cmp_exact r.0 held (λ none. let empty = ap length none in absurd (omega (arith, here, empty))) in
        let reference = in-map (λ (e : Held × ℕ). e.0) held r.0 there in
        in_any (eq_by_cmp nat_cmp q) (map (λ reference. reference.0.0) held) r.0.0
        (subst (λ (h : Held). In h.0 (map (λ reference. reference.0.0) held)) (sym reference.2)
        (map-in (λ (reference : Held × ℕ). reference.0.0) held reference.0 reference.1)) same)
        (λ (other : is_of q r ≡ false).
        held_among q rs (All-tail Came r.0 (map (λ (r : HeldTallyRow). r.0) rs) came) (ap (λ b. b || list_any (is_of q) rs) (sym other) ∙ any))
        (cases_Bool (is_of q r))
