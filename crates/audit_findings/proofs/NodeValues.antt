-- What an event does to the counts of a node, by the kind of its record.
use Rattle.std.proofs.Common.{◌≡◌, ℕ, Bool, false, eqb, ◌&&◌, List, refl, ap₂, ◌∙◌}
use Rattle.std.specs.Option.{option_map_or}
use Rattle.std.specs.Ordering.{eq_by_cmp, is_eq, nat_cmp, ordering_then}
use Rattle.std.specs.declared.cmp.Ordering.{Ordering}
use Rattle.std.specs.declared.cmp.Ordering.TheVariants.{Equal, Greater, Less}
use Rattle.binder_code.specs.declared.record_kind.Kind.{Kind}
use Rattle.binder_code.specs.declared.record_kind.Kind.TheVariants.{BcAcquireDone, BcIncrefsDone, BrAcquire, BrDecrefs, BrIncrefs, BrRelease}
use Rattle.capture_frame.specs.Envelope.{number_at}
use Rattle.event_core.specs.Nodes.{NodeItem, node_effect, node_item, node_key}
use Rattle.event_core.specs.declared.node.NodeChange.{NodeChange}
use Rattle.event_core.specs.declared.node.NodeKey.{NodeKey}
use Rattle.event_core.specs.declared.strength.Strength.{Strength}
use Rattle.event_core.specs.declared.strength.Strength.TheVariants.{Strong, Weak}
use Rattle.handle_ledger.specs.Nodes.{node_change, node_cmp, node_due_change}
use Rattle.handle_ledger.specs.Rows.{change_at}
use Rattle.summary_law.specs.Count.{Change, is_lower, is_raise, keeps}
use Rattle.audit_findings.specs.NodeRows.{acknowledges, asks, changes_node, lets_go}
use Rattle.audit_findings.proofs.CodeLaws.{same_key}
use Rattle.audit_findings.proofs.HandleValues.{if_named}

-- nodes that compare as equal have the same ptr and the same cookie
pub both_equal : (first second : Ordering) → is_eq (ordering_then first second) ≡ (is_eq first && is_eq second)
both_equal Less second = refl
both_equal Equal second = refl
both_equal Greater second = refl

pub same_node : (key other : NodeKey) → eq_by_cmp node_cmp key other ≡ (eqb other.ptr key.ptr && eqb other.cookie key.cookie)
same_node key other =
    both_equal (nat_cmp key.ptr other.ptr) (nat_cmp key.cookie other.cookie)
    ∙ ap₂ (λ (a b : Bool). a && b) (same_key key.ptr other.ptr) (same_key key.cookie other.cookie)

-- whether a record of this kind raises the count of this strength, and whether it lowers it; the same of what is due
pub node_effects : (strength : Strength) (kind : Kind)
    → (is_raise (option_map_or (node_change strength) (node_effect kind) keeps) ≡ asks strength kind)
    × (is_lower (option_map_or (node_change strength) (node_effect kind) keeps) ≡ lets_go strength kind)
    × (is_raise (option_map_or (node_due_change strength) (node_effect kind) keeps) ≡ asks strength kind)
    × (is_lower (option_map_or (node_due_change strength) (node_effect kind) keeps) ≡ acknowledges strength kind)
node_effects Strong BrAcquire = (refl, refl, refl, refl)
node_effects Weak BrAcquire = (refl, refl, refl, refl)
node_effects strength kind = (refl, refl, refl, refl)

module _ (key : NodeKey) where
  abbrev named : List ℕ → Bool
  named payload = eqb (number_at 8 0 payload) key.ptr && eqb (number_at 8 8 payload) key.cookie

  is_named : (payload : List ℕ) → eq_by_cmp node_cmp key (node_key payload) ≡ named payload
  is_named payload = same_node key (node_key payload)

  pub if_node : (test : Change → Bool) → test keeps ≡ false → (does : Strength × NodeChange → Change) (kind : Kind) (payload : List ℕ) (is : Bool)
      → test (option_map_or does (node_effect kind) keeps) ≡ is
      → test (option_map_or (change_at node_cmp does key) (node_item kind payload) keeps) ≡ (is && named payload)
  if_node test none does kind payload =
      if_named node_cmp key (node_key payload) (named payload) (is_named payload) test none does (node_effect kind)

  -- an event has an item of the node if it names the node
  pub node_named : (kind : Kind) (payload : List ℕ)
      → option_map_or (λ (item : NodeItem). eq_by_cmp node_cmp key item.0) (node_item kind payload) false ≡ (changes_node kind && named payload)
  node_named BrAcquire payload = is_named payload
  node_named BrRelease payload = is_named payload
  node_named BcAcquireDone payload = is_named payload
  node_named BrIncrefs payload = is_named payload
  node_named BrDecrefs payload = is_named payload
  node_named BcIncrefsDone payload = is_named payload
  node_named _ payload = refl
