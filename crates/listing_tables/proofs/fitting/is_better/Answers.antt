use Rattle.std.proofs.Common.{◌≡◌, sym, ◌∙◌}
use Rattle.listing_tables.specs.Guesses.{call_order, meant_order}
use Rattle.listing_tables.proofs.GuessLaws.{first_better, first_worse, second_better, second_worse, third_better, third_worse}
use Rattle.listing_tables.proofs.fitting.is_better.Goals as goal

pub returns-then-first-second-clause-better : goal.returns-then-first-second-clause-better
returns-then-first-second-clause-better c = first_better _ _ _ _ _ _ _ _ c.order-first.ensures c.order-second.ensures

pub returns-then-first-second-clause-worse : goal.returns-then-first-second-clause-worse
returns-then-first-second-clause-worse c =
    first_worse _ _ _ _ _ _ _ _ c.order-first.ensures c.order-second.ensures c.if-first-second.true

pub returns-then-one-two-clause-better : goal.returns-then-one-two-clause-better
returns-then-one-two-clause-better c =
    let same : meant_order c.args.fit.now.meant ≡ meant_order c.args.other.now.meant
    = sym c.order-first.ensures ∙ c.if-first-second.false ∙ c.order-second.ensures in
    second_better _ _ _ _ _ _ _ _ same c.call_order-one.ensures c.call_order-two.ensures

pub returns-then-one-two-clause-worse : goal.returns-then-one-two-clause-worse
returns-then-one-two-clause-worse c =
    let same : meant_order c.args.fit.now.meant ≡ meant_order c.args.other.now.meant
    = sym c.order-first.ensures ∙ c.if-first-second.false ∙ c.order-second.ensures in
    second_worse _ _ _ _ _ _ _ _ same c.call_order-one.ensures c.call_order-two.ensures c.if-one-two.true

pub returns-clause-better : goal.returns-clause-better
returns-clause-better c =
    let same : meant_order c.args.fit.now.meant ≡ meant_order c.args.other.now.meant
    = sym c.order-first.ensures ∙ c.if-first-second.false ∙ c.order-second.ensures in
    let alike : call_order c.args.oneway c.args.fit.now.closer ≡ call_order c.args.oneway c.args.other.now.closer
    = sym c.call_order-one.ensures ∙ c.if-one-two.false ∙ c.call_order-two.ensures in
    third_better _ _ _ _ _ _ same alike

pub returns-clause-worse : goal.returns-clause-worse
returns-clause-worse c =
    let same : meant_order c.args.fit.now.meant ≡ meant_order c.args.other.now.meant
    = sym c.order-first.ensures ∙ c.if-first-second.false ∙ c.order-second.ensures in
    let alike : call_order c.args.oneway c.args.fit.now.closer ≡ call_order c.args.oneway c.args.other.now.closer
    = sym c.call_order-one.ensures ∙ c.if-one-two.false ∙ c.call_order-two.ensures in
    third_worse _ _ _ _ _ _ same alike
