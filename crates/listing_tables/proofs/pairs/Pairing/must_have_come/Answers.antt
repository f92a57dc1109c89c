use Rattle.std.proofs.Common.{rules}
use Rattle.std.proofs.lemmas.Result.{IfOk-weaker}
use Rattle.listing_tables.proofs.PairLaws.{on_true_weaker}
use Rattle.listing_tables.proofs.pairs.Pairing.must_have_come.Goals as goal

pub returns-in-Some : goal.returns-in-Some
returns-in-Some c =
    IfOk-weaker c.has_whole_call.result _ _
    (λ must whole. on_true_weaker must (λ is. record {
      message = c.in_ok-message.message;
      there = c.in_ok-message.ensures;
      sent = c.in-Sent.field-0;
      is = c.in-Sent.is;
      free = search rules;
      looked = search rules;
      call = c.in-Some.call;
      opens = rw c.in-Some.is at c.in_ok-call.ensures.known;
      answered = search rules;
      whole = is;
    }) whole)
    c.has_whole_call.ensures
