-- What the driver says to the sends of a thread: which records confirm a send or refuse one, and which send that is
-- (docs/DATABASE.md#send).
use Rattle.std.specs.Prelude.{◌≡◌, ℕ, Bool, false, List, [], ◌∷◌, ◌++◌, length, map, Option, None, Some, slice_get, slice_set}
use Rattle.std.specs.Option.{option_to_list}
use Rattle.std.specs.VecDeque.{deque_items}
use Rattle.binder_code.specs.declared.record_kind.Kind.{Kind}
use Rattle.binder_code.specs.declared.record_kind.Kind.TheVariants.{BrDeadReply, BrTransactionComplete, BrFailedReply, BrFrozenReply, BrOnewaySpamSuspect, BrTransactionPendingFrozen}
use Rattle.listing_tables.specs.Changes.{Changes, settled_as, with_detail}
use Rattle.listing_tables.specs.declared.messages.Detail.{Detail}
use Rattle.listing_tables.specs.declared.messages.Detail.TheVariants.{Failed}
use Rattle.listing_tables.specs.declared.messages.Message.{Message}
use Rattle.listing_tables.specs.declared.messages.Settled.{Settled}
use Rattle.listing_tables.specs.declared.messages.Settled.TheVariants.{Confirmed, Refused}
use Rattle.listing_tables.specs.declared.origin.Origin.{Origin}
use Rattle.listing_tables.specs.declared.sends.Sends.{Sends}
use Rattle.listing_tables.specs.declared.traffic.Traffic.{Traffic}

-- of each thread, its sends that wait, by their indices among the messages, in order
abbrev pub queues_of : Sends → List (List ℕ)
queues_of sends = map deque_items sends.queues.all.items

-- all messages
abbrev pub messages_in : Traffic → List Message
messages_in traffic = traffic.messages.list.all.items

-- a send waits as the last one of its thread
pub record AddsLast (old : List (List ℕ)) (utid send : ℕ) (new : List (List ℕ)) : Type 0 where
  pub before : List ℕ
  pub there : slice_get old utid ≡ Some before
  pub are : new ≡ slice_set old utid (before ++ send ∷ [])

-- the first send of a thread that waits is taken, if one waits
pub record TakesFirst (old : List (List ℕ)) (utid : ℕ) (new : List (List ℕ)) (found : Option ℕ) : Type 0 where
  pub rest : List ℕ
  pub there : slice_get old utid ≡ Some (option_to_list found ++ rest)
  pub none : found ≡ None → rest ≡ []
  pub are : new ≡ slice_set old utid rest

-- What a record of this kind, at this place, says to the first send of its thread that waits: three kinds confirm it, and
-- the error replies refuse it. No other record says anything to a send.
abbrev pub said_by : Kind → ℕ → Option Settled
said_by BrTransactionComplete place = Some (Confirmed place)
said_by BrOnewaySpamSuspect place = Some (Confirmed place)
said_by BrTransactionPendingFrozen place = Some (Confirmed place)
said_by BrDeadReply place = Some (Refused place)
said_by BrFailedReply place = Some (Refused place)
said_by BrFrozenReply place = Some (Refused place)
said_by _ place = None

-- the first send of a thread that waits is settled so, and does not wait any more; without one no message changes
pub record SettlesFirst (old : Traffic) (utid : ℕ) (said : Settled) (queues : List (List ℕ)) (new : List Message) : Type 0 where
  pub found : Option ℕ
  pub takes : TakesFirst (queues_of old.sends) utid queues found
  pub none : found ≡ None → new ≡ messages_in old
  pub one : (send : ℕ) → found ≡ Some send → Changes (messages_in old) new send (with_detail (settled_as said))

-- a message as it is kept of a record that so many gaps come before, until calls and pairs are found
abbrev pub message_at : Origin → ℕ → Kind → Bool → ℕ → Detail → Message
message_at origin gaps kind oneway key detail = record {
  sequence = origin.sequence;
  key = key;
  place = origin.place;
  utid = origin.utid;
  gaps = gaps;
  kind = kind;
  oneway = oneway;
  call = None;
  partner = None;
  detail = detail;
}

-- what is said by an error reply is a message besides, which is no send and no delivery
abbrev pub said_as_message : Origin → ℕ → Kind → Settled → List Message
said_as_message origin gaps kind (Refused place) = message_at origin gaps kind false 0 Failed ∷ []
said_as_message origin gaps kind _ = []

-- What is said settles the first send of the thread that waits, and what an error reply says is a message besides. Where
-- nothing is said to a send, all messages stay, and all that wait.
abbrev pub TakesSaid : Traffic → Origin → Kind → Traffic → Option Settled → Type 0
TakesSaid old origin kind new None = (new.messages ≡ old.messages) × (new.sends ≡ old.sends)
TakesSaid old origin kind new (Some said) =
    (settled : List Message) × SettlesFirst old origin.utid.index said (queues_of new.sends) settled
    × (messages_in new ≡ settled ++ said_as_message origin (length old.seen.gaps.items) kind said)
