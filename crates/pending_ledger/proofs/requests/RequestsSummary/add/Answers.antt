use Rattle.std.proofs.Common.{◌∷◌, ◌++◌, [], map, sym, subst}
use Rattle.std.proofs.lemmas.Result.{on_ok_weaker}
use Rattle.std.specs.Ordering.{eq_by_cmp, nat_cmp}
use Rattle.pending_ledger.proofs.RequestLaws.{cookies_more, cookies_short}
use Rattle.pending_ledger.specs.Sums.{by_cookie, CookieSums}
use Rattle.summary_law.specs.ByKey.{EachFits, SumsByKey}
use Rattle.summary_law.specs.Fits.{IsShort}
use Rattle.pending_ledger.proofs.requests.RequestsSummary.add.Goals as goal

pub add-requires : goal.add-requires
add-requires c =
    let eq = eq_by_cmp nat_cmp in
    let items = c.requires.0 in
    rw c.change_cookie.ensures (
      map by_cookie items,
      c.requires.1.0,
      subst (EachFits eq IsShort) (cookies_more items c.args.item) (cookies_short eq (items ++ c.args.item ∷ []) c.requires.2),
    )

pub returns : goal.returns
returns c =
    let eq = eq_by_cmp nat_cmp in
    on_ok_weaker c.add.result
    (λ adds items sums fits. (
      subst (SumsByKey nat_cmp CookieSums c.add.new.self) (sym (cookies_more items c.args.item))
          (adds (map by_cookie items) sums.0
          (subst (EachFits eq IsShort) (cookies_more items c.args.item) (cookies_short eq (items ++ c.args.item ∷ []) fits))),
      fits,
    ))
    (rw c.change_cookie.ensures at c.add.ensures)
