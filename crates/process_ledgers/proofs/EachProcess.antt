-- The ledgers over those events of a process that concern a ledger are the ledgers of the process among all events.
use Rattle.std.proofs.Common.{◌≡◌, Bool, true, false, cond, List, [], ◌∷◌, map, Option, Some, None, refl, sym, ap, subst, ◌∙◌}
use Rattle.std.specs.List.{filter_map, cons_option}
use Rattle.std.specs.Ordering.{nat_cmp}
use Rattle.binder_code.specs.declared.record_kind.Kind.{Kind}
use Rattle.binder_code.specs.declared.record_kind.Kind.TheVariants.{BcTransaction, BcTransactionSg, BcFreeBuffer, BcIncrefs, BcAcquire, BcRelease, BcDecrefs, BcIncrefsDone, BcAcquireDone, BcRequestDeathNotification, BcClearDeathNotification, BcDeadBinderDone, BrTransaction, BrTransactionSecCtx, BrReply, BrIncrefs, BrAcquire, BrRelease, BrDecrefs, BrDeadBinder, BrClearDeathNotificationDone}
use Rattle.capture_frame.specs.Process.{same_process}
use Rattle.capture_frame.specs.declared.process.Process.{Process}
use Rattle.event_core.specs.Events.{EventRead, process_of}
use Rattle.event_core.specs.Reading.{event_text}
use Rattle.event_core.specs.declared.event.Event.{Event}
use Rattle.handle_ledger.specs.Handles.{HandleLedgerSums}
use Rattle.handle_ledger.specs.Nodes.{NodeLedgerSums}
use Rattle.pending_ledger.specs.Sums.{PendingSums, RequestsSums}
use Rattle.summary_law.specs.ByKey.{items_of}
use Rattle.process_ledgers.specs.declared.process_ledgers.ProcessLedgers.{ProcessLedgers}
use Rattle.process_ledgers.specs.Concerns.{concerns, concerned}
use Rattle.process_ledgers.specs.Items.{buffer_pending_of, clear_item_of, death_item_of, handle_item_of, node_item_of, oneway_item_of, request_item_of}
use Rattle.process_ledgers.specs.EachProcess.{AreLedgersOf}
use Rattle.process_ledgers.specs.Oneway.{OnewaySums}
use Rattle.process_ledgers.specs.ProcessLedgers.{SumsProcess, picked_by}
use Rattle.process_ledgers.specs.Processes.{events_in, items_of_process}

-- no ledger picks an item from the event
record PickNone (e : EventRead) : Type 0 where
  handles : handle_item_of e ≡ None
  nodes : node_item_of e ≡ None
  buffers : buffer_pending_of e ≡ None
  requests : request_item_of e ≡ None
  deaths : death_item_of e ≡ None
  clears : clear_item_of e ≡ None
  oneway : oneway_item_of e ≡ None

none_else : (e : EventRead) → concerns e.kind ≡ false → PickNone e
none_else e is = by_kind e.kind refl is
  where
    by_kind : (kind : Kind) → e.kind ≡ kind → concerns kind ≡ false → PickNone e
    by_kind BcTransaction same is = let no : ⊥ = cc in absurd no
    by_kind BcTransactionSg same is = let no : ⊥ = cc in absurd no
    by_kind BcFreeBuffer same is = let no : ⊥ = cc in absurd no
    by_kind BcIncrefs same is = let no : ⊥ = cc in absurd no
    by_kind BcAcquire same is = let no : ⊥ = cc in absurd no
    by_kind BcRelease same is = let no : ⊥ = cc in absurd no
    by_kind BcDecrefs same is = let no : ⊥ = cc in absurd no
    by_kind BcIncrefsDone same is = let no : ⊥ = cc in absurd no
    by_kind BcAcquireDone same is = let no : ⊥ = cc in absurd no
    by_kind BcRequestDeathNotification same is = let no : ⊥ = cc in absurd no
    by_kind BcClearDeathNotification same is = let no : ⊥ = cc in absurd no
    by_kind BcDeadBinderDone same is = let no : ⊥ = cc in absurd no
    by_kind BrTransaction same is = let no : ⊥ = cc in absurd no
    by_kind BrTransactionSecCtx same is = let no : ⊥ = cc in absurd no
    by_kind BrReply same is = let no : ⊥ = cc in absurd no
    by_kind BrIncrefs same is = let no : ⊥ = cc in absurd no
    by_kind BrAcquire same is = let no : ⊥ = cc in absurd no
    by_kind BrRelease same is = let no : ⊥ = cc in absurd no
    by_kind BrDecrefs same is = let no : ⊥ = cc in absurd no
    by_kind BrDeadBinder same is = let no : ⊥ = cc in absurd no
    by_kind BrClearDeathNotificationDone same is = let no : ⊥ = cc in absurd no
    by_kind _ same is = rw same record { handles = refl; nodes = refl; buffers = refl; requests = refl; deaths = refl; clears = refl; oneway = refl }

module _ {I : Type 0} (read : EventRead → Option I) (none : (e : EventRead) → concerns e.kind ≡ false → read e ≡ None) where
  -- the items picked from those events of a process that concern a ledger are the items read from all its events
  own_items : (q : Process) (events : List Event)
      → filter_map (picked_by read) (items_of same_process q (filter_map concerned events)) ≡ items_of_process read q (map event_text events)
  own_items q [] = refl
  own_items q (event ∷ events) = by_kind (own_items q events) (concerns event.kind) refl
    where
      text : EventRead
      text = event_text event

      rest : List (Process × Event)
      rest = filter_map concerned events

      own : List EventRead
      own = events_in q (map event_text events)

      one : filter_map (picked_by read) (items_of same_process q rest) ≡ filter_map read own → (b : Bool)
          → filter_map (picked_by read) (cons_option (cond b (Some event) None) (items_of same_process q rest)) ≡ filter_map read (cond b (text ∷ own) own)
      one same true = ap (cons_option (read text)) same
      one same false = same

      left_out : (b : Bool) → read text ≡ None → filter_map read own ≡ filter_map read (cond b (text ∷ own) own)
      left_out true is = ap (λ (o : Option I). cons_option o (filter_map read own)) (sym is)
      left_out false is = refl

      by_kind : filter_map (picked_by read) (items_of same_process q rest) ≡ filter_map read own → (b : Bool) → concerns event.kind ≡ b
          → filter_map (picked_by read) (items_of same_process q (cons_option (cond b (Some (process_of text, event)) None) rest))
          ≡ filter_map read (cond (same_process q (process_of text)) (text ∷ own) own)
      by_kind same true is = one same (same_process q (process_of text))
      by_kind same false is = same ∙ left_out (same_process q (process_of text)) (none text is)

-- the ledgers over those events of a process that concern a ledger are the ledgers of the process
pub own_ledgers : (ledgers : ProcessLedgers) (q : Process) (events : List Event) → SumsProcess ledgers (items_of same_process q (filter_map concerned events))
    → AreLedgersOf ledgers (map event_text events) q
own_ledgers ledgers q events sums = record {
  handles = subst (HandleLedgerSums ledgers.handles.own) (own_items handle_item_of (λ e is. (none_else e is).handles) q events) sums.handles;
  nodes = subst (NodeLedgerSums ledgers.nodes.own) (own_items node_item_of (λ e is. (none_else e is).nodes) q events) sums.nodes;
  buffers = subst (PendingSums nat_cmp ledgers.buffers.own) (own_items buffer_pending_of (λ e is. (none_else e is).buffers) q events) sums.buffers;
  requests = subst (RequestsSums ledgers.requests.own) (own_items request_item_of (λ e is. (none_else e is).requests) q events) sums.requests;
  deaths = subst (PendingSums nat_cmp ledgers.deaths.own) (own_items death_item_of (λ e is. (none_else e is).deaths) q events) sums.deaths;
  clears = subst (PendingSums nat_cmp ledgers.clears.own) (own_items clear_item_of (λ e is. (none_else e is).clears) q events) sums.clears;
  oneway = subst (OnewaySums ledgers.oneway.own) (own_items oneway_item_of (λ e is. (none_else e is).oneway) q events) sums.oneway;
}
