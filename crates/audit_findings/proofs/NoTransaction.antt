-- An event that is neither a transaction nor a reply changes neither the counts of `oneway` nor the places of `flags`.
use Rattle.std.proofs.Common.{◌≡◌, ℕ, Bool, true, false, cond, List, [], ◌∷◌, ◌++◌, Option, None, map, refl, ap, sym, ◌∙◌}
use Rattle.std.specs.Prelude.{◌↔◌, count_by, not}
use Rattle.std.specs.List.{filter_map, cons_option}
use Rattle.std.proofs.lemmas.List.{append-nil}
use Rattle.std.proofs.lemmas.List.Elements.{filter-append, filter_map-append}
use Rattle.binder_code.specs.declared.record_kind.Kind.{Kind}
use Rattle.binder_code.specs.declared.record_kind.Kind.TheVariants.{BcTransaction, BcTransactionSg, BrTransaction, BrTransactionSecCtx}
use Rattle.transaction_view.specs.Transaction.{has_transaction_data}
use Rattle.event_core.specs.Events.{EventRead}
use Rattle.event_core.specs.Oneway.{oneway_item}
use Rattle.event_core.specs.declared.oneway.OnewayKey.{OnewayKey}
use Rattle.process_ledgers.specs.Items.{oneway_item_of}
use Rattle.audit_findings.specs.Flags.{flagged, has_unknown_flags}
use Rattle.audit_findings.specs.Ledgers.{ListsFlagged}
use Rattle.audit_findings.specs.Oneway.{is_sent, oneway_counts}
use Rattle.audit_findings.specs.declared.flags.FlagLedger.{FlagLedger}
use Rattle.audit_findings.specs.declared.oneway_counts.OnewayCounts.{OnewayCounts}

-- if an option is there where a test is true, the test is false where there is none
pub test_fails : (some test : Bool) → (some ≡ true) ↔ (test ≡ true) → (none : Bool) → some ≡ not none → none ≡ true → test ≡ false
test_fails some false both none is ended = refl
test_fails some true both none is ended =
    let there = both.1 refl in
    let gone : some ≡ false = is ∙ ap not ended in
    let no : ⊥ = cc in
    absurd no

no_item : (kind : Kind) (payload : List ℕ) → has_transaction_data kind ≡ false → oneway_item kind payload ≡ None
no_item BcTransaction payload is = let no : ⊥ = cc in absurd no
no_item BcTransactionSg payload is = let no : ⊥ = cc in absurd no
no_item BrTransaction payload is = let no : ⊥ = cc in absurd no
no_item BrTransactionSecCtx payload is = let no : ⊥ = cc in absurd no
no_item _ payload is = refl

pub counts_stay : (counts : OnewayCounts) (events : List EventRead) (e : EventRead) → has_transaction_data e.kind ≡ false
    → counts ≡ oneway_counts events → counts ≡ oneway_counts (events ++ e ∷ [])
counts_stay counts events e is same =
    let items = filter_map oneway_item_of events in
    let stay : filter_map oneway_item_of (events ++ e ∷ []) ≡ items
    = filter_map-append oneway_item_of events (e ∷ [])
    ∙ ap (λ (o : Option (OnewayKey × ℕ)). items ++ cons_option o []) (no_item e.kind e.payload is)
    ∙ append-nil items in
    same
    ∙ ap (λ (all : List (OnewayKey × ℕ)). record { sent = count_by is_sent all; received = count_by (λ item. not (is_sent item)) all }) (sym stay)

no_flags : (e : EventRead) → has_transaction_data e.kind ≡ false → has_unknown_flags e ≡ false
no_flags e is = rw is refl

pub flags_stay : (ledger : FlagLedger) (events : List EventRead) (e : EventRead) → has_transaction_data e.kind ≡ false
    → ListsFlagged ledger events → ListsFlagged ledger (events ++ e ∷ [])
flags_stay ledger events e is lists =
    let stay : flagged (events ++ e ∷ []) ≡ flagged events
    = filter-append has_unknown_flags events (e ∷ [])
    ∙ ap (λ (b : Bool). flagged events ++ cond b (e ∷ []) []) (no_flags e is)
    ∙ append-nil (flagged events) in
    lists ∙ ap (map (λ (other : EventRead). other.place)) (sym stay)
