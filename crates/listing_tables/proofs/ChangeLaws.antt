-- What follows of a change of one message.
use Rattle.std.proofs.Common.{◌≡◌, ℕ, List, Some, sym, ap, ◌∙◌}
use Rattle.std.specs.Prelude.{slice_set}
use Rattle.listing_tables.specs.Changes.{Changes, IsSendAt, sent_as, with_detail}
use Rattle.listing_tables.specs.declared.messages.Detail.{Detail}
use Rattle.listing_tables.specs.declared.messages.Detail.TheVariants.{Sent as IsSent}
use Rattle.listing_tables.specs.declared.messages.Message.{Message}
use Rattle.listing_tables.specs.declared.messages.Sent.{Sent}

same_message : (a b : Message) → Some a ≡ Some b → a ≡ b
same_message a b h = cc

-- a send that is set as the function makes it of the send that it was
pub sent_changed : (old new : List Message) (i : ℕ) (sent made : Sent) (f : Detail → Detail) → IsSendAt old i sent
    → f (IsSent sent) ≡ IsSent made → Changes old new i (with_detail (sent_as made)) → Changes old new i (with_detail f)
sent_changed old new i sent made f here is change =
    let same : here.message ≡ change.before = same_message here.message change.before (sym here.there ∙ change.there) in
    let was : change.before.detail ≡ IsSent sent = ap (λ (m : Message). m.detail) (sym same) ∙ here.is in
    let made_of : IsSent made ≡ f change.before.detail = sym is ∙ ap f (sym was) in
    record {
      before = change.before;
      there = change.there;
      are = change.are ∙ ap (λ (d : Detail). slice_set old i (record change.before { detail = d })) made_of;
    }
