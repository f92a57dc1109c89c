-- How a list of messages changes (docs/DATABASE.md#send).
use Rattle.std.specs.Prelude.{◌≡◌, ℕ, Bool, List, Some, slice_get, slice_set}
use Rattle.listing_tables.specs.declared.messages.Detail.{Detail}
use Rattle.listing_tables.specs.declared.messages.Detail.TheVariants.{Sent as IsSent, Delivered, Failed}
use Rattle.listing_tables.specs.declared.messages.Message.{Message}
use Rattle.listing_tables.specs.declared.messages.Sent.{Sent}
use Rattle.listing_tables.specs.declared.messages.Settled.{Settled}

-- the message at this index becomes what the function makes of it, and no other one changes
pub record Changes (old new : List Message) (index : ℕ) (after : Message → Message) : Type 0 where
  pub before : Message
  pub there : slice_get old index ≡ Some before
  pub are : new ≡ slice_set old index (after before)

-- the message at this index is this send
pub record IsSendAt (list : List Message) (index : ℕ) (sent : Sent) : Type 0 where
  pub message : Message
  pub there : slice_get list index ≡ Some message
  pub is : message.detail ≡ IsSent sent

-- a message of which this is known
abbrev pub with_detail : (Detail → Detail) → Message → Message
with_detail after message = record message { detail = after message.detail }

-- a message with this partner
abbrev pub with_partner : ℕ → Message → Message
with_partner partner message = record message { partner = Some partner }

-- it is this send, whatever it was
abbrev pub sent_as : Sent → Detail → Detail
sent_as sent detail = IsSent sent

-- a send to which the driver said this
abbrev pub settled_as : Settled → Detail → Detail
settled_as said (IsSent sent) = IsSent (record sent { settled = said })
settled_as said (Delivered buffer) = Delivered buffer
settled_as said Failed = Failed

-- a send as one of so many that fit its delivery, certain or not
abbrev pub rated_as : ℕ → Bool → Detail → Detail
rated_as count sure (IsSent sent) = IsSent (record sent { fits = count; certain = sure })
rated_as count sure (Delivered buffer) = Delivered buffer
rated_as count sure Failed = Failed

-- the send at this index is one of so many that fit its delivery, certain or not
abbrev pub Rates : List Message → List Message → ℕ → ℕ → Bool → Type 0
Rates old new index count sure = Changes old new index (with_detail (rated_as count sure))

-- a send and a delivery become partners
pub record Couples (old new : List Message) (send delivery : ℕ) : Type 0 where
  pub between : List Message
  pub first : Changes old between send (with_partner delivery)
  pub second : Changes between new delivery (with_partner send)

-- a send is rated so, and becomes the partner of a delivery
pub record RatesPair (old new : List Message) (send delivery count : ℕ) (sure : Bool) : Type 0 where
  pub between : List Message
  pub rates : Rates old between send count sure
  pub couples : Couples between new send delivery
