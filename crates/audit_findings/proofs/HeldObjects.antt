-- What is held for a process: by references that are tallied, and by the objects in its outstanding deliveries.
use Rattle.std.proofs.Common.{◌≡◌, ℕ, ◌+◌, Bool, true, false, cond, eqb, ◌&&◌, not, List, [], ◌∷◌, filter, filter_map, length, map, Some, None, inl, inr, refl, sym, ap, ap₂, ◌∙◌, arith}
use Rattle.std.specs.List.{cons_option}
use Rattle.std.specs.Option.{option_map_or}
use Rattle.std.specs.Ordering.{bool_cmp, eq_by_cmp, is_eq, nat_cmp}
use Rattle.std.proofs.Math.Bool.{and-false, and-true}
use Rattle.std.specs.Prelude.{count_by}
use Rattle.std.proofs.lemmas.List.Sums.{sum_by-cons}
use Rattle.capture_frame.specs.Envelope.{number_at}
use Rattle.capture_frame.specs.declared.process.Process.{Process}
use Rattle.event_core.specs.Events.{EventRead}
use Rattle.handle_ledger.specs.Held.{Held, held_cmp, held_count}
use Rattle.object_view.specs.Held.{held_of}
use Rattle.object_view.specs.Objects.{ObjectText}
use Rattle.object_view.specs.declared.sort.Sort.{Sort}
use Rattle.object_view.specs.declared.sort.Sort.TheVariants.{Handle, WeakHandle}
use Rattle.summary_law.proofs.Members.{In}
use Rattle.summary_law.specs.ByKey.{items_of}
use Rattle.audit_findings.specs.Buffers.{is_leaked}
use Rattle.audit_findings.specs.HandleRows.{held_objects, is_outstanding}
use Rattle.audit_findings.specs.Held.{held_of_process, reference_of, unweighed}
use Rattle.audit_findings.specs.Objects.{good_objects, same_sort}
use Rattle.audit_findings.specs.Places.{RiseInPlace, passing_in}
use Rattle.audit_findings.proofs.CodeLaws.{same_key}
use Rattle.audit_findings.proofs.HandleRows.{is_among, listed_again}
use Rattle.audit_findings.proofs.KeyRows.{count_read}
use Rattle.audit_findings.proofs.NodeValues.{both_equal}
use Rattle.audit_findings.proofs.Outstanding.{among_leaked}

-- ---- the tally of references without a weight

count_unweighed : (eq : Held → Held → Bool) (key : Held) (held : List Held) → length (items_of eq key (unweighed held)) ≡ count_by (eq key) held
count_unweighed eq key [] = refl
count_unweighed eq key (r ∷ held) =
    let rest = count_unweighed eq key held in
    let one : Held → ℕ = λ r. cond (eq key r) 1 0 in
    let whole = sum_by-cons one r held in
    elim (eq key r) as (λ b. (eq key r ≡ b) → length (cons_option (cond b (Some 0) None) (items_of eq key (unweighed held))) ≡ count_by (eq key) (r ∷ held)) [
      | true ↦ λ is. let here : one r ≡ 1 = ap (λ (b : Bool). cond b 1 0) is in omega (arith, rest, whole, here)
      | false ↦ λ is. let none : one r ≡ 0 = ap (λ (b : Bool). cond b 1 0) is in omega (arith, rest, whole, none)
    ] refl

-- whether a reference is to this handle, and weak or strong as asked
abbrev pub is_to : ℕ → Bool → Held → Bool
is_to handle weak r = eqb r.0 handle && cond weak r.1 (not r.1)

same_strength : (weak other : Bool) → is_eq (bool_cmp weak other) ≡ cond weak other (not other)
same_strength true true = refl
same_strength true false = refl
same_strength false true = refl
same_strength false false = refl

same_reference : (handle : ℕ) (weak : Bool) (r : Held) → eq_by_cmp held_cmp (handle, weak) r ≡ is_to handle weak r
same_reference handle weak r =
    both_equal (nat_cmp handle r.0) (bool_cmp weak r.1) ∙ ap₂ (λ (a b : Bool). a && b) (same_key handle r.0) (same_strength weak r.1)

pub held_is : (handle : ℕ) (weak : Bool) (held : List Held) → held_count (unweighed held) handle weak ≡ count_by (is_to handle weak) held
held_is handle weak held =
    count_unweighed (eq_by_cmp held_cmp) (handle, weak) held ∙ ap (λ (t : Held → Bool). count_by t held) (λ i r. same_reference handle weak r i)

-- all references to a handle are the strong ones and the weak ones
pub both_strengths : (handle : ℕ) (held : List Held)
    → count_by (λ (k : ℕ). eqb k handle) (map (λ (r : Held × ℕ). r.0.0) (unweighed held)) ≡ count_by (is_to handle false) held + count_by (is_to handle true) held
both_strengths handle [] = refl
both_strengths handle (r ∷ held) =
    let rest = both_strengths handle held in
    let whole = sum_by-cons (λ (k : ℕ). cond (eqb k handle) 1 0) r.0 (map (λ (r : Held × ℕ). r.0.0) (unweighed held)) in
    let strong = sum_by-cons (λ (r : Held). cond (is_to handle false r) 1 0) r held in
    let weak = sum_by-cons (λ (r : Held). cond (is_to handle true r) 1 0) r held in
    let one = either_strength (eqb r.0 handle) r.1 in
    omega (arith, rest, whole, strong, weak, one)
  where
    either_strength : (same weak : Bool) → ◌≡◌ {A = ℕ} (cond same 1 0) (cond (same && not weak) 1 0 + cond (same && weak) 1 0)
    either_strength true true = omega arith
    either_strength true false = omega arith
    either_strength false true = omega arith
    either_strength false false = omega arith

-- ---- the references among objects

-- the sort of object that is a reference of this strength
abbrev pub held_sort : Bool → Sort
held_sort weak = cond weak WeakHandle Handle

object_is : (handle : ℕ) (weak : Bool) (sort : Sort) (bytes : List ℕ)
    → option_map_or (is_to handle weak) (held_of sort bytes) false ≡ (same_sort sort (held_sort weak) && eqb (number_at 4 8 bytes) handle)
object_is handle false Handle bytes = and-true (eqb (number_at 4 8 bytes) handle)
object_is handle false WeakHandle bytes = and-false (eqb (number_at 4 8 bytes) handle)
object_is handle true Handle bytes = and-false (eqb (number_at 4 8 bytes) handle)
object_is handle true WeakHandle bytes = and-true (eqb (number_at 4 8 bytes) handle)
object_is handle weak _ bytes = refl

-- ---- the objects of outstanding deliveries

filter_same : {X : Type 0} (test other : X → Bool) (xs : List X) → ((x : X) → In x xs → test x ≡ other x) → filter test xs ≡ filter other xs
filter_same test other [] same = refl
filter_same {X} test other (x ∷ xs) same =
    ap₂ (λ (b : Bool) (t : List X). cond b (x ∷ t) t) (same x (inl refl)) (filter_same test other xs (λ y there. same y (inr there)))

module _ (events : List EventRead) (rise : RiseInPlace events) (process : Process) where
  abbrev outstanding_objects : List ObjectText
  outstanding_objects = good_objects (filter (is_outstanding events process) events)

  held_among : held_of_process events process ≡ filter_map reference_of outstanding_objects
  held_among =
      ap (λ (es : List EventRead). filter_map reference_of (good_objects es))
      (sym (listed_again is_leaked process events rise)
      ∙ filter_same (is_among (passing_in is_leaked process events)) (is_outstanding events process) events (among_leaked events rise process))

  pub all_held : (handle : ℕ) (weak : Bool)
      → held_count (unweighed (held_of_process events process)) handle weak ≡ held_objects events process (held_sort weak) handle
  all_held handle weak =
      held_is handle weak (held_of_process events process) ∙ ap (count_by (is_to handle weak)) held_among
      ∙ count_read (is_to handle weak) reference_of outstanding_objects
      ∙ ap (λ (t : ObjectText → Bool). count_by t outstanding_objects) (λ i o. object_is handle weak o.sort o.bytes i)
