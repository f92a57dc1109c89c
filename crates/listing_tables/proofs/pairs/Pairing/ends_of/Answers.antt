use Rattle.std.proofs.Common.{refl}
use Rattle.listing_tables.proofs.CertaintyLaws.{holds_if}
use Rattle.listing_tables.proofs.pairs.Pairing.ends_of.Goals as goal

pub returns : goal.returns
returns c = record {
  delivery = c.in_ok-delivery.delivery;
  delivers = c.in_ok-delivery.ensures;
  paired = c.in-Some.is;
  served = c.in-Some-begun.served;
  serves = rw c.in-Some-begun.is at c.in_ok-begun.ensures.known;
  reply = c.in-Some-replied_by.replied;
  replies = rw c.in-Some-replied_by.is at c.replied_by.ensures.some;
  replied = refl;
  send = c.in_ok-opener.opener;
  sends = c.in_ok-opener.ensures;
  made = c.in-Some-opened.made;
  makes = rw c.in-Some-opened.is at c.in_ok-opened.ensures.known;
  answered = c.is_answered.ensures.answered.0 (cc);
  answer = c.in-Some-closer.is;
  alike = holds_if c.in_ok-are_alike.field-0 c.in_ok-are_alike.ensures.alike (cc);
}
