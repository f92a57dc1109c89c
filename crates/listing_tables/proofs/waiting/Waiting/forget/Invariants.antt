use Rattle.std.proofs.Common.{◌≡◌, ◌⊎◌, None, IsTrue}
use Rattle.std.specs.Prelude.{nat_eq}
use Rattle.indexmap.specs.IndexMap.{get}
use Rattle.listing_tables.specs.Waiting.{Entry, in_doubt, waits}
use Rattle.listing_tables.proofs.waiting.Waiting.forget.Given as goal

abbrev pub invariant-loop : goal.invariant-loop
invariant-loop l = record {
  wait : (other : Entry) → IsTrue (waits l.fn.self other) → IsTrue (waits l.self other) ⊎ ((other.0 ≡ l.key) × IsTrue (in_doubt l.fn.self other));
  fewer : (other : Entry) → IsTrue (waits l.self other) → IsTrue (waits l.fn.self other);
  gone : get nat_eq l.self.doubts l.key ≡ None;
  doubted : (other : Entry) → IsTrue (in_doubt l.self other) → IsTrue (in_doubt l.fn.self other);
}
