use Rattle.std.proofs.Common.{refl}
use Rattle.listing_tables.proofs.waiting.Waiting.clear.Goals as goal

pub returns : goal.returns
returns c = record {
  waits = λ send. rw (c.clear.ensures.empty, c.clear-2.ensures.empty) refl;
  doubted = λ send. rw c.clear-3.ensures.empty refl;
  counts = λ key. rw c.clear-4.ensures.empty refl;
}
