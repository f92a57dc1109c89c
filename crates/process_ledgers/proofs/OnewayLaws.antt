-- The order of the keys of oneway transactions: the one that the code compares by is the one that is defined.
use Rattle.std.proofs.Common.{◌≡◌, ℕ, List, refl, sym, ap, subst}
use Rattle.std.specs.Cmp.{IsTotalOrder}
use Rattle.std.specs.declared.cmp.Ordering.{Ordering}
use Rattle.std.proofs.lemmas.Map.Lookups.{CmpEqualImpliesEq, exact_unsigned}
use Rattle.event_core.specs.contracts.oneway.OnewayKeyOrd.TheImpl as key_ord
use Rattle.event_core.specs.contracts.oneway.OnewayKeyOrd.TheImpl.Laws.{total-law}
use Rattle.event_core.specs.declared.oneway.OnewayKey.{OnewayKey}
use Rattle.event_core.specs.declared.oneway.OnewayKey.TheVariants.{Sent, Received}
use Rattle.summary_law.proofs.TallyLaws.{tally_is}
use Rattle.summary_law.specs.Tally.{TallySums, AreTallyRows, GivesRows, tally_rows}
use Rattle.summary_law.specs.declared.tally.Tally.{Tally}
use Rattle.process_ledgers.specs.Oneway.{OnewaySums, oneway_cmp}

-- the order that the derive makes
abbrev pub key_cmp : OnewayKey → OnewayKey → Ordering
key_cmp = (key_ord.ghosts).cmp

same_order : (a b : OnewayKey) → key_cmp a b ≡ oneway_cmp a b
same_order (Sent a) (Sent b) = refl
same_order (Sent a) Received = refl
same_order Received (Sent b) = refl
same_order Received Received = refl

pub order_is : key_cmp ≡ oneway_cmp
order_is i a b = same_order a b i

oneway_cmp_total : IsTotalOrder oneway_cmp
oneway_cmp_total = subst IsTotalOrder order_is total-law

oneway_cmp_exact : CmpEqualImpliesEq oneway_cmp
oneway_cmp_exact (Sent a) (Sent b) is = ap Sent (exact_unsigned a b is)
oneway_cmp_exact (Sent a) Received is = let no : ⊥ = cc in absurd no
oneway_cmp_exact Received (Sent b) is = let no : ⊥ = cc in absurd no
oneway_cmp_exact Received Received is = refl

-- a tally by the one order is one by the other
pub by_derived : (tally : Tally OnewayKey) (items : List (OnewayKey × ℕ)) → OnewaySums tally items → TallySums key_cmp tally items
by_derived tally items = subst (λ (cmp : OnewayKey → OnewayKey → Ordering). TallySums cmp tally items) (sym order_is)

pub by_said : (tally : Tally OnewayKey) (items : List (OnewayKey × ℕ)) → TallySums key_cmp tally items → OnewaySums tally items
by_said tally items = subst (λ (cmp : OnewayKey → OnewayKey → Ordering). TallySums cmp tally items) order_is

-- the rows of the tally
pub rows_said : (tally : Tally OnewayKey) (rows : List (OnewayKey × ℕ × ℕ)) → GivesRows key_cmp tally rows → (items : List (OnewayKey × ℕ))
    → OnewaySums tally items → rows ≡ tally_rows oneway_cmp items
rows_said tally rows gives items sums =
    tally_is oneway_cmp oneway_cmp_total oneway_cmp_exact items rows
    (subst (λ (cmp : OnewayKey → OnewayKey → Ordering). AreTallyRows cmp items rows) order_is (gives items (by_derived tally items sums)))
