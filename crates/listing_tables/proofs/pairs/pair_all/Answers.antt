use Rattle.std.proofs.Common.{refl}
use Rattle.std.proofs.lemmas.Result.{on_ok_weaker}
use Rattle.listing_tables.proofs.pairs.pair_all.Goals as goal

pub returns : goal.returns
returns c =
    on_ok_weaker c.pair-done.result
    (λ pairs. record {
      begun = _;
      paired = c.pair-done.new.self;
      pairs = pairs;
      begins = record {
        messages = c.replace-messages.ensures.value;
        handed = c.replace-handed.ensures.value;
        buffers = refl;
        generations = refl;
        seen = refl;
        made = refl;
        meanings = c.new-3.ensures.list;
        same = c.new-3.ensures.same;
        marks = c.new-6.ensures;
      };
      messages = c.swap.ensures.x_after;
      others = refl;
    })
    c.pair-done.ensures
