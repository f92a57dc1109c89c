use Rattle.std.proofs.Common.{◌++◌, map, sym, subst}
use Rattle.std.specs.Ordering.{eq_by_cmp, nat_cmp}
use Rattle.pending_ledger.proofs.RequestLaws.{cookies_both, cookies_short}
use Rattle.pending_ledger.specs.Sums.{by_cookie, CookieSums}
use Rattle.summary_law.specs.ByKey.{EachFits, SumsByKey}
use Rattle.summary_law.specs.Fits.{IsShort}
use Rattle.pending_ledger.proofs.requests.RequestsSummary.join.Goals as goal

pub join-requires : goal.join-requires
join-requires c =
    let eq = eq_by_cmp nat_cmp in
    let first = c.requires.0 in
    let second = c.requires.1 in (
      map by_cookie first,
      map by_cookie second,
      c.requires.2.0,
      c.requires.3.0,
      subst (EachFits eq IsShort) (cookies_both first second) (cookies_short eq (first ++ second) c.requires.4),
    )

pub returns : goal.returns
returns c = λ first second mine theirs fits.
    let eq = eq_by_cmp nat_cmp in (
      subst (SumsByKey nat_cmp CookieSums c.in_ok-cookies.cookies) (sym (cookies_both first second))
          (c.in_ok-cookies.ensures (map by_cookie first) (map by_cookie second) mine.0 theirs.0
          (subst (EachFits eq IsShort) (cookies_both first second) (cookies_short eq (first ++ second) fits))),
      fits,
    )
