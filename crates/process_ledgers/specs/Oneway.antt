-- The oneway transactions of a process, by handle (docs/REPORT.md).
use Rattle.std.specs.Prelude.{ℕ, List}
use Rattle.event_core.specs.declared.oneway.OnewayKey.{OnewayKey}
use Rattle.event_core.specs.declared.oneway.OnewayKey.TheVariants.{Sent, Received}
use Rattle.std.specs.Ordering.{nat_cmp}
use Rattle.std.specs.declared.cmp.Ordering.{Ordering}
use Rattle.std.specs.declared.cmp.Ordering.TheVariants.{Less, Equal, Greater}
use Rattle.summary_law.specs.Tally.{TallySums}
use Rattle.summary_law.specs.declared.tally.Tally.{Tally}

-- sends are ordered by handle, and what is received comes after them
abbrev pub oneway_cmp : OnewayKey → OnewayKey → Ordering
oneway_cmp (Sent handle) (Sent other) = nat_cmp handle other
oneway_cmp (Sent handle) Received = Less
oneway_cmp Received (Sent handle) = Greater
oneway_cmp Received Received = Equal

-- the tally is that of these items
abbrev pub OnewaySums : Tally OnewayKey → List (OnewayKey × ℕ) → Type 0
OnewaySums tally items = TallySums oneway_cmp tally items
