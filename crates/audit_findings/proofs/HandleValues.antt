-- What an event does to the counts of one key, and of a handle, by the kind of its record.
use Rattle.std.proofs.Common.{◌≡◌, ℕ, Bool, true, false, cond, eqb, ◌&&◌, List, Option, Some, None, refl, sym, ap, ap₂, ◌∙◌}
use Rattle.std.proofs.Math.Bool.{and-false, and-true}
use Rattle.std.specs.Option.{option_map, option_map_or}
use Rattle.std.specs.Ordering.{eq_by_cmp, nat_cmp}
use Rattle.std.specs.declared.cmp.Ordering.{Ordering}
use Rattle.binder_code.specs.declared.record_kind.Kind.{Kind}
use Rattle.binder_code.specs.declared.record_kind.Kind.TheVariants.{BcAcquire, BcDecrefs, BcIncrefs, BcRelease}
use Rattle.capture_frame.specs.Envelope.{number_at}
use Rattle.event_core.specs.Handles.{HandleItem, handle_effect, handle_item}
use Rattle.event_core.specs.declared.handle.HandleChange.{HandleChange}
use Rattle.event_core.specs.declared.strength.Strength.{Strength}
use Rattle.event_core.specs.declared.strength.Strength.TheVariants.{Strong, Weak}
use Rattle.handle_ledger.specs.Handles.{handle_change}
use Rattle.handle_ledger.specs.Rows.{change_at}
use Rattle.summary_law.specs.Count.{Change, is_lower, is_raise, keeps}
use Rattle.audit_findings.specs.HandleRows.{changes_handle, gives_back, takes}
use Rattle.audit_findings.proofs.CodeLaws.{same_key}

if_same : (test : Change → Bool) → test keeps ≡ false → (same : Bool) (change : Change) → test (cond same change keeps) ≡ (test change && same)
if_same test none true change = sym (and-true (test change))
if_same test none false change = none ∙ sym (and-false (test change))

-- an effect on one key changes the count of a key as it does if this key is named, and else not at all
module _ {K C : Type 0} (cmp : K → K → Ordering) (key other : K) (named : Bool) (at : eq_by_cmp cmp key other ≡ named) (test : Change → Bool)
    (none : test keeps ≡ false) where
  pub if_named : (does : C → Change) (effect : Option C) (is : Bool) → test (option_map_or does effect keeps) ≡ is
      → test (option_map_or (change_at cmp does key) (option_map (λ (e : C). (other, e)) effect) keeps) ≡ (is && named)
  if_named does None is same = none ∙ ap (λ b. b && named) (sym none ∙ same)
  if_named does (Some effect) is same = if_same test none (eq_by_cmp cmp key other) (does effect) ∙ ap₂ (λ a b. a && b) same at

-- whether a record of this kind raises the count of this strength, and whether it lowers it
pub handle_effects : (strength : Strength) (kind : Kind)
    → (is_raise (option_map_or (handle_change strength) (handle_effect kind) keeps) ≡ takes strength kind)
    × (is_lower (option_map_or (handle_change strength) (handle_effect kind) keeps) ≡ gives_back strength kind)
handle_effects Strong BcAcquire = (refl, refl)
handle_effects Weak BcAcquire = (refl, refl)
handle_effects strength kind = (refl, refl)

module _ (handle : ℕ) where
  abbrev named : List ℕ → Bool
  named payload = eqb (number_at 4 0 payload) handle

  pub if_handle : (test : Change → Bool) → test keeps ≡ false → (does : Strength × HandleChange → Change) (kind : Kind) (payload : List ℕ) (is : Bool)
      → test (option_map_or does (handle_effect kind) keeps) ≡ is
      → test (option_map_or (change_at nat_cmp does handle) (handle_item kind payload) keeps) ≡ (is && named payload)
  if_handle test none does kind payload =
      if_named nat_cmp handle (number_at 4 0 payload) (named payload) (same_key handle (number_at 4 0 payload)) test none does (handle_effect kind)

  -- an event has an item of the handle if it names the handle
  pub handle_named : (kind : Kind) (payload : List ℕ)
      → option_map_or (λ (item : HandleItem). eqb item.0 handle) (handle_item kind payload) false ≡ (changes_handle kind && named payload)
  handle_named BcAcquire payload = refl
  handle_named BcRelease payload = refl
  handle_named BcIncrefs payload = refl
  handle_named BcDecrefs payload = refl
  handle_named _ payload = refl
