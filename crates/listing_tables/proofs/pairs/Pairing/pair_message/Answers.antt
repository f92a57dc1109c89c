use Rattle.std.proofs.Common.{ℕ, List, inl, inr, ap, ◌≡◌, ◌∙◌, sym, subst, rules}
use Rattle.std.proofs.lemmas.Result.{on_ok_weaker}
use Rattle.listing_tables.specs.Decisions.{NotesDelivery}
use Rattle.listing_tables.specs.Pairing.{ClosesCall, MarksSome, messages_of}
use Rattle.listing_tables.specs.declared.marks.Mark.{Mark}
use Rattle.listing_tables.specs.declared.messages.Message.{Message}
use Rattle.listing_tables.specs.declared.pairs.Pairing.{Pairing}
use Rattle.listing_tables.specs.declared.waiting.Waiting.{Waiting}
use Rattle.listing_tables.proofs.DecisionLaws.{marks_of}
use Rattle.listing_tables.proofs.PairLaws.{on_ok_both}
use Rattle.listing_tables.proofs.pairs.Pairing.pair_message.Goals as goal

pub returns-in_ok-sought-in-Delivered-clause-turn : goal.returns-in_ok-sought-in-Delivered-clause-turn
returns-in_ok-sought-in-Delivered-clause-turn c =
    let between = c.sought.new.self in
    let closed = c.close_send.new.self in
    let is = c.in_ok-sought-in-Delivered.ensures in
    let is_made = c.pair_delivery.ensures in
    let waiting : between.waiting ≡ closed.waiting = ap (λ (p : Pairing). p.waiting) c.sought.ensures.same in
    let noted = subst (λ (p : Pairing). NotesDelivery p c.in-Delivered.buffer c.in_ok-sought-in-Delivered.sought)
    c.in_ok-close_send.ensures.same is.noted in
    on_ok_weaker c.pair_delivery.result
    (λ both. inr (record {
      buffer = c.in-Delivered.buffer;
      is = c.in-Delivered.is;
      alone = search rules;
      between = between;
      same = subst (λ (w : Waiting). between ≡ record c.args.self.now { waiting = w; handed = between.handed }) (sym waiting)
          (c.sought.ensures.same ∙ ap (λ (p : Pairing). record p { handed = between.handed }) c.in_ok-close_send.ensures.same);
      closes = subst (λ (w : Waiting). ClosesCall c.args.self.now c.args.message.now w) (sym waiting) c.in_ok-close_send.ensures.closed;
      sought = c.in_ok-sought-in-Delivered.sought;
      which = is.index;
      what = is.message;
      noted = record {
        buffer = noted.buffer;
        there = noted.there;
        sender = noted.sender;
        node = noted.node;
        leads = noted.leads;
        at = noted.at;
        process = noted.process;
      };
      pairs = both.0;
      decides = both.1.0;
      crowded = both.1.1;
    }))
    (on_ok_both _ _ c.pair_delivery.result is_made.pairs (on_ok_both _ _ c.pair_delivery.result is_made.decided is_made.crowded))

pub returns-in-Sent-clause-turn : goal.returns-in-Sent-clause-turn
returns-in-Sent-clause-turn c =
    let closed = c.in_ok-close_send.ensures in
    on_ok_weaker c.add_send.result
    (λ both. inl (record {
      messages = ap messages_of both.0 ∙ ap messages_of closed.same;
      between = c.close_send.new.self.waiting;
      closes = closed.closed;
      kept = both.1;
      crowded = ap (λ (p : Pairing). p.crowded) both.0 ∙ ap (λ (p : Pairing). p.crowded) closed.same;
      news = ap (λ (p : Pairing). p.news) both.0 ∙ ap (λ (p : Pairing). p.news) closed.same;
    }))
    (on_ok_both _ _ c.add_send.result c.add_send.ensures.same c.add_send.ensures.kept)

pub returns-in_ok-sought-in-Delivered-clause-marks : goal.returns-in_ok-sought-in-Delivered-clause-marks
returns-in_ok-sought-in-Delivered-clause-marks c =
    let sought = c.in_ok-sought-in-Delivered.sought in
    let is = c.in_ok-sought-in-Delivered.ensures in
    let new = c.pair_delivery.new.self.marks.all.items in
    let same = ap (λ (p : Pairing). p.marks.all.items) c.sought.ensures.same ∙ ap (λ (p : Pairing). p.marks.all.items) c.in_ok-close_send.ensures.same in
    on_ok_weaker c.pair_delivery.result
    (λ decided. inr (
      c.in-Delivered.buffer,
      c.in-Delivered.is,
      subst (λ (l : List Mark). MarksSome c.args.message.now.oneway c.args.index l new) same
          (subst (λ (m : Message). MarksSome m.oneway c.args.index c.sought.new.self.marks.all.items new) is.message
          (subst (λ (n : ℕ). MarksSome sought.message.oneway n c.sought.new.self.marks.all.items new) is.index
          (marks_of c.sought.new.self c.pair_delivery.new.self sought decided))),
    ))
    c.pair_delivery.ensures.decided

pub returns-in_ok-sought-in-Delivered-clause-facts : goal.returns-in_ok-sought-in-Delivered-clause-facts
returns-in_ok-sought-in-Delivered-clause-facts c =
    on_ok_weaker c.pair_delivery.result
    (λ facts. facts ∙ ap (λ (p : Pairing). p.facts) c.sought.ensures.same ∙ ap (λ (p : Pairing). p.facts) c.in_ok-close_send.ensures.same)
    c.pair_delivery.ensures.facts

pub returns-in-Sent-clause-facts : goal.returns-in-Sent-clause-facts
returns-in-Sent-clause-facts c =
    on_ok_weaker c.add_send.result
    (λ same. ap (λ (p : Pairing). p.facts) same ∙ ap (λ (p : Pairing). p.facts) c.in_ok-close_send.ensures.same)
    c.add_send.ensures.same
