use Rattle.std.proofs.Common.{refl}
use Rattle.listing_tables.proofs.waiting.Waiting.new.Goals as goal

pub returns : goal.returns
returns c = record {
  waits = λ send. rw (c.new.ensures.empty, c.new-2.ensures.empty) refl;
  doubted = λ send. rw c.new-3.ensures.empty refl;
  counts = λ key. rw c.new-4.ensures.empty refl;
}
