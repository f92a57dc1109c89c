use Rattle.std.proofs.Common.{◌≡◌, Bool, true, false, Some, refl, sym, ap, ◌∙◌, eqb-true, false-eqb}
use Rattle.std.specs.Bool.{OnFalse}
use Rattle.listing_tables.specs.Certainty.{AreAlike}
use Rattle.listing_tables.specs.declared.messages.Message.{Message}
use Rattle.listing_tables.proofs.PairLaws.{on_true_from}
use Rattle.listing_tables.proofs.messages.Messages.are_alike.Goals as goal

same_message : (x y : Message) → Some x ≡ Some y → x ≡ y
same_message x y q = cc

on_false_from : {P : Type 0} (b : Bool) → (b ≡ false → P) → OnFalse b P
on_false_from true f = tt
on_false_from false f = f refl

pub returns-clause-alike : goal.returns-clause-alike
returns-clause-alike c =
    on_true_from {P = AreAlike c.args.self.now c.args.one c.args.other} _
    (λ alike. (c.in_ok-first.first, c.in_ok-second.second, c.in_ok-first.ensures, c.in_ok-second.ensures, eqb-true c.in_ok-first.first.key c.in_ok-second.second.key alike))

pub returns-clause-other : goal.returns-clause-other
returns-clause-other c =
    on_false_from {P = AreAlike c.args.self.now c.args.one c.args.other → ⊥} _
    (λ differ alike.
    let first = ap (λ (m : Message). m.key) (same_message c.in_ok-first.first alike.0 (sym c.in_ok-first.ensures ∙ alike.2)) in
    let second = ap (λ (m : Message). m.key) (same_message c.in_ok-second.second alike.1 (sym c.in_ok-second.ensures ∙ alike.3)) in
    false-eqb c.in_ok-first.first.key c.in_ok-second.second.key (sym differ) (first ∙ alike.4 ∙ sym second))
