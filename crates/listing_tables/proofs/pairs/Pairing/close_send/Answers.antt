use Rattle.std.proofs.Common.{inl, inr, refl, sym, ◌∙◌, rules}
use Rattle.std.proofs.lemmas.Result.{on_ok_weaker}
use Rattle.listing_tables.proofs.PairLaws.{closes_itself, closes_paired, closes_served, nothing_at, on_ok_both}
use Rattle.listing_tables.specs.Pairing.{calls_of}
use Rattle.listing_tables.proofs.pairs.Pairing.close_send.Goals as goal

pub returns-in_default-clause-closed : goal.returns-in_default-clause-closed
returns-in_default-clause-closed c =
    inl (
      λ call is. absurd (nothing_at (calls_of c.args.self.now) c.args.message.now.call call is (sym c.in_default.is ∙ c.in_ok-found.ensures.found)),
      refl,
    )

pub returns-then-call-clause-closed : goal.returns-then-call-clause-closed
returns-then-call-clause-closed c =
    inl (
      closes_served c.args.self.now c.args.message.now c.in-Some.call (sym c.in-Some.is ∙ c.in_ok-found.ensures.found) c.if-call.true,
      refl,
    )

pub returns-then-call-message-clause-closed : goal.returns-then-call-message-clause-closed
returns-then-call-message-clause-closed c =
    inl (
      closes_itself c.args.self.now c.args.message.now c.in-Some.call (sym c.in-Some.is ∙ c.in_ok-found.ensures.found) c.if-call-message.true,
      refl,
    )

pub returns-then-is_some-clause-closed : goal.returns-then-is_some-clause-closed
returns-then-is_some-clause-closed c =
    inl (
      closes_paired c.args.self.now c.args.message.now c.in-Some.call (sym c.in-Some.is ∙ c.in_ok-found.ensures.found) c.in_ok-send.send
          c.in_ok-send.ensures (search rules),
      refl,
    )

pub returns-clause-closed : goal.returns-clause-closed
returns-clause-closed c =
    let call = c.in-Some.call in
    let send = c.in_ok-send.send in
    on_ok_weaker c.close.result
    (λ both. inr (record {
      call = call;
      closes = rw c.in-Some.is at c.in_ok-found.ensures.known;
      made = c.if-call.false;
      later = c.if-call-message.false;
      send = send;
      there = c.in_ok-send.ensures;
      free = search rules;
      sent = c.in_ok-sent.sent;
      sends = c.in_ok-sent.ensures;
      list = c.in_ok-listed.listed.list;
      listed = c.in_ok-listed.ensures.list;
      others = search rules;
      gone = search rules;
    }))
    (on_ok_both _ _ c.close.result c.close.ensures.others c.close.ensures.gone)
