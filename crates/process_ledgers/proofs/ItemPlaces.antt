-- The item that a ledger reads from an event has the place of the event.
use Rattle.std.proofs.Common.{◌≡◌, ℕ, List, Option, Some, None, refl, sym, ap, ◌∙◌}
use Rattle.std.specs.Option.{option_map, unwrap_or}
use Rattle.binder_code.specs.declared.record_kind.Kind.{Kind}
use Rattle.binder_code.specs.declared.record_kind.Kind.TheVariants.{BcFreeBuffer, BcClearDeathNotification, BrTransaction, BrTransactionSecCtx, BrReply, BrClearDeathNotificationDone}
use Rattle.event_core.specs.Buffers.{buffer_item, buffer_pending}
use Rattle.event_core.specs.Clears.{clear_item}
use Rattle.event_core.specs.Deaths.{death_change}
use Rattle.event_core.specs.Requests.{request_change}
use Rattle.event_core.specs.declared.pending.KeyEvent.{KeyEvent}
use Rattle.pending_ledger.specs.Pending.{place_of}
use Rattle.pending_ledger.specs.Requests.{request_place}
use Rattle.process_ledgers.specs.Items.{KeepsPlace, buffer_pending_of, clear_item_of, death_item_of, request_item_of}

pub made_there : {A I : Type 0} (place : I → ℕ) (make : A → I) (at : ℕ) → ((a : A) → place (make a) ≡ at) → (o : Option A) (i : I) → option_map make o ≡ Some i
    → place i ≡ at
made_there place make at there None i is = let no : ⊥ = cc in absurd no
made_there place make at there (Some a) i is = sym (ap (λ o. place (unwrap_or o i)) is) ∙ there a

some_there : {I : Type 0} (place : I → ℕ) (made i : I) (at : ℕ) → place made ≡ at → Some made ≡ Some i → place i ≡ at
some_there place made i at there is = sym (ap (λ o. place (unwrap_or o i)) is) ∙ there

buffer_there : (at : ℕ) (kind : Kind) (payload : List ℕ) (i : ℕ × KeyEvent) → option_map buffer_pending (buffer_item at kind payload) ≡ Some i → place_of i ≡ at
buffer_there at BrTransaction payload i is = some_there place_of _ i at refl is
buffer_there at BrTransactionSecCtx payload i is = some_there place_of _ i at refl is
buffer_there at BrReply payload i is = some_there place_of _ i at refl is
buffer_there at BcFreeBuffer payload i is = some_there place_of _ i at refl is
buffer_there at _ payload i is = let no : ⊥ = cc in absurd no

clear_there : (at : ℕ) (kind : Kind) (payload : List ℕ) (i : ℕ × KeyEvent) → clear_item at kind payload ≡ Some i → place_of i ≡ at
clear_there at BcClearDeathNotification payload i is = some_there place_of _ i at refl is
clear_there at BrClearDeathNotificationDone payload i is = some_there place_of _ i at refl is
clear_there at _ payload i is = let no : ⊥ = cc in absurd no

pub buffer_keeps : KeepsPlace place_of buffer_pending_of
buffer_keeps e i is = buffer_there e.place e.kind e.payload i is

pub request_keeps : KeepsPlace request_place request_item_of
request_keeps e i is = made_there request_place _ e.place (λ change. refl) (request_change e.kind e.payload) i is

pub death_keeps : KeepsPlace place_of death_item_of
death_keeps e i is = made_there place_of _ e.place (λ change. refl) (death_change e.kind) i is

pub clear_keeps : KeepsPlace place_of clear_item_of
clear_keeps e i is = clear_there e.place e.kind e.payload i is
