use Rattle.std.proofs.Common.{◌≡◌, Some, None, inl, inr, refl, sym, subst, ◌∙◌}
use Rattle.listing_tables.specs.Guesses.{IsNoLater}
use Rattle.listing_tables.specs.declared.fitting.Fit.{Fit}
use Rattle.listing_tables.proofs.GuessLaws.{not_later, same_fit}
use Rattle.listing_tables.proofs.fitting.best_of.Goals as goal

none_is : (it : Fit) → None ≡ Some it → ⊥
none_is it e = cc

pub returns-then-not-may_be_guessed : goal.returns-then-not-may_be_guessed
returns-then-not-may_be_guessed c = record {
  is = λ it e. inl e;
  new = λ may. absurd (c.if-not-may_be_guessed.ensures.not may);
  kept = λ was e. (was, e, not_later c.args.oneway was);
}

pub returns-in_default : goal.returns-in_default
returns-in_default c = record {
  is = λ it e. inr (sym (same_fit c.args.fit it e), c.if-not-may_be_guessed.ensures.may);
  new = λ may. (c.args.fit, refl, not_later c.args.oneway c.args.fit);
  kept = λ was e. absurd (none_is was (sym c.in_default.is ∙ e));
}

pub returns-then-is_better : goal.returns-then-is_better
returns-then-is_better c = record {
  is = λ it e. inr (sym (same_fit c.args.fit it e), c.if-not-may_be_guessed.ensures.may);
  new = λ may. (c.args.fit, refl, not_later c.args.oneway c.args.fit);
  kept = λ was e. (
    c.args.fit,
    refl,
    subst (IsNoLater c.args.oneway c.args.fit) (same_fit c.in-Some.it was (sym c.in-Some.is ∙ e)) c.if-is_better.ensures.better,
  );
}

pub returns : goal.returns
returns c = record {
  is = λ it e. inl (c.in-Some.is ∙ e);
  new = λ may. (c.in-Some.it, refl, c.if-is_better.ensures.worse);
  kept = λ was e. (was, sym c.in-Some.is ∙ e, not_later c.args.oneway was);
}
