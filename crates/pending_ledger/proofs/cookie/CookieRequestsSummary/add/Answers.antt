use Rattle.std.proofs.Common.{◌≡◌, ◌∷◌, ◌++◌, ◌||◌, [], Some, None, sym, ap, subst, ◌∙◌, rules}
use Rattle.std.proofs.lemmas.Bool.{or_right}
use Rattle.std.proofs.lemmas.List.Folds.{list_any-append}
use Rattle.std.proofs.lemmas.Result.{on_ok_weaker}
use Rattle.std.specs.List.{list_any}
use Rattle.std.specs.Ordering.{eq_by_cmp, nat_cmp}
use Rattle.std.proofs.Math.Bool.{or-false}
use Rattle.pending_ledger.proofs.SumLaws.{is_alive, is_gone, handle_events-added, handle_events-gone, handles_short}
use Rattle.pending_ledger.specs.Sums.{OpensSums, handle_event, handle_events, is_death}
use Rattle.summary_law.specs.ByKey.{EachFits, SumsByKey}
use Rattle.summary_law.specs.Fits.{IsShort}
use Rattle.pending_ledger.proofs.cookie.CookieRequestsSummary.add.Goals as goal

pub add-requires : goal.add-requires
add-requires c =
    let eq = eq_by_cmp nat_cmp in
    let items = c.requires.0 in
    let item = c.args.item in
    let is : handle_event item ≡ Some c.in-Some.event = search rules in (
      handle_events items,
      c.requires.1.handles,
      subst (EachFits eq IsShort) (handle_events-added items item c.in-Some.event is) (handles_short eq (items ++ item ∷ []) c.requires.2),
    )

pub returns-in-Some : goal.returns-in-Some
returns-in-Some c =
    let eq = eq_by_cmp nat_cmp in
    let item = c.args.item in
    let event = c.in-Some.event in
    let is : handle_event item ≡ Some event = search rules in
    on_ok_weaker c.add.result
    (λ adds items sums fits.
    let added = handle_events-added items item event is in
    record {
      dead = sums.dead ∙ sym (or-false (list_any is_death items)) ∙ ap (λ b. list_any is_death items || b) (sym (is_alive item event is))
          ∙ sym (list_any-append is_death items (item ∷ []));
      handles = subst (SumsByKey nat_cmp OpensSums c.add.new.self) (sym added)
          (adds (handle_events items) sums.handles (subst (EachFits eq IsShort) added (handles_short eq (items ++ item ∷ []) fits)));
    })
    c.add.ensures

pub returns-in-None : goal.returns-in-None
returns-in-None c = λ items sums fits.
    let item = c.args.item in
    let is : handle_event item ≡ None = search rules in
    record {
      dead = sym (or_right (list_any is_death items) (list_any is_death (item ∷ [])) (is_gone item is)) ∙ sym (list_any-append is_death items (item ∷ []));
      handles = subst (SumsByKey nat_cmp OpensSums c.empty.result) (sym (handle_events-gone items item is)) c.empty.ensures;
    }
