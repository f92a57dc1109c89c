use Rattle.std.proofs.Common.{◌≡◌, ◌++◌, ◌||◌, true, false, sym, ap, subst, ◌∙◌, rules}
use Rattle.std.proofs.lemmas.Bool.{or_right}
use Rattle.std.proofs.lemmas.List.Folds.{list_any-append}
use Rattle.std.specs.List.{list_any}
use Rattle.std.specs.Ordering.{eq_by_cmp, nat_cmp}
use Rattle.std.proofs.Math.Bool.{or-false}
use Rattle.pending_ledger.proofs.SumLaws.{handle_events-append, handle_events-anew, handles_short}
use Rattle.pending_ledger.specs.Sums.{OpensSums, handle_events, is_death}
use Rattle.summary_law.specs.ByKey.{EachFits, SumsByKey}
use Rattle.summary_law.specs.Fits.{IsShort}
use Rattle.pending_ledger.proofs.cookie.CookieRequestsSummary.join.Goals as goal

pub returns-then-later : goal.returns-then-later
returns-then-later c = λ first second mine theirs fits.
    let dead : c.args.later.dead ≡ true = search rules in
    let some : list_any is_death second ≡ true = sym theirs.dead ∙ dead in
    record {
      dead = dead ∙ sym (or_right (list_any is_death first) (list_any is_death second) some) ∙ sym (list_any-append is_death first second);
      handles = subst (SumsByKey nat_cmp OpensSums c.args.later.handles) (sym (handle_events-anew first second some)) theirs.handles;
    }

pub join-requires : goal.join-requires
join-requires c =
    let eq = eq_by_cmp nat_cmp in
    let first = c.requires.0 in
    let second = c.requires.1 in
    let alive : c.args.later.dead ≡ false = search rules in
    let none : list_any is_death second ≡ false = sym c.requires.3.dead ∙ alive in (
      handle_events first,
      handle_events second,
      c.requires.2.handles,
      c.requires.3.handles,
      subst (EachFits eq IsShort) (handle_events-append first second none) (handles_short eq (first ++ second) c.requires.4),
    )

pub returns : goal.returns
returns c = λ first second mine theirs fits.
    let eq = eq_by_cmp nat_cmp in
    let alive : c.args.later.dead ≡ false = search rules in
    let none : list_any is_death second ≡ false = sym theirs.dead ∙ alive in
    let both = handle_events-append first second none in
    record {
      dead = mine.dead ∙ sym (or-false (list_any is_death first)) ∙ ap (λ b. list_any is_death first || b) (sym none)
          ∙ sym (list_any-append is_death first second);
      handles = subst (SumsByKey nat_cmp OpensSums c.in_ok-handles.handles) (sym both)
          (c.in_ok-handles.ensures (handle_events first) (handle_events second) mine.handles theirs.handles
          (subst (EachFits eq IsShort) both (handles_short eq (first ++ second) fits)));
    }
