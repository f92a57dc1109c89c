use Rattle.std.proofs.Common.{◌≡◌, ◌+◌, true, length}
use Rattle.listing_tables.specs.Certainty.{LooksAt}
use Rattle.listing_tables.specs.Waiting.{all_looks}
use Rattle.listing_tables.proofs.certainty.Evidence.look_at_all.Given as goal

abbrev pub invariant-loop-at : goal.invariant-loop-at
invariant-loop-at l = record {
  looks : LooksAt l.self l.sought l.fitting l.at;
  all : l.fitting.is_whole ≡ true → l.fitting.looked.items ≡ all_looks l.self.waiting.now l.sought.message.key (l.sought.node + 1);
  end : l.at-end ≡ length l.fitting.looked.items;
}
