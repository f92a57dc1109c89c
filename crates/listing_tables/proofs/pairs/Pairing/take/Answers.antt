use Rattle.std.proofs.Common.{false, ◌≡◌, refl, ap, sym, subst}
use Rattle.listing_tables.specs.Doubts.{CountsLeaving}
use Rattle.listing_tables.specs.Waiting.{OthersWaitBut, entry_of, waits}
use Rattle.listing_tables.specs.declared.pairs.Pairing.{Pairing}
use Rattle.listing_tables.specs.declared.waiting.Waiting.{Waiting}
use Rattle.std.proofs.lemmas.Result.{on_ok_weaker}
use Rattle.listing_tables.proofs.pairs.Pairing.take.Goals as goal

pub returns-clause-gone : goal.returns-clause-gone
returns-clause-gone c =
    on_ok_weaker c.keep_pair.result
    (λ same. subst (λ (w : Waiting). waits w (entry_of c.args.fit.now.listed) ≡ false) (sym (ap (λ (p : Pairing). p.waiting) same)) c.in_ok-take.ensures.gone)
    c.keep_pair.ensures.same

pub returns-clause-others : goal.returns-clause-others
returns-clause-others c =
    on_ok_weaker c.keep_pair.result
    (λ same. subst (λ (w : Waiting). OthersWaitBut (entry_of c.args.fit.now.listed) c.args.self.now.waiting w) (sym (ap (λ (p : Pairing). p.waiting) same))
    c.in_ok-take.ensures.others)
    c.keep_pair.ensures.same

pub returns-clause-counts : goal.returns-clause-counts
returns-clause-counts c =
    on_ok_weaker c.keep_pair.result
    (λ same. subst (λ (w : Waiting). CountsLeaving c.args.self.now.waiting c.args.fit.now.listed 0 w) (sym (ap (λ (p : Pairing). p.waiting) same))
    c.in_ok-take.ensures.counted)
    c.keep_pair.ensures.same

pub returns-clause-news : goal.returns-clause-news
returns-clause-news c = on_ok_weaker c.keep_pair.result (λ same. ap (λ (p : Pairing). p.news) same) c.keep_pair.ensures.same

pub returns-clause-same : goal.returns-clause-same
returns-clause-same c =
    on_ok_weaker c.keep_pair.result
    (λ same. subst
    (λ (p : Pairing). p ≡ record c.args.self.now { messages = p.messages; meanings = p.meanings; waiting = p.waiting; news = p.news })
    (sym same) refl)
    c.keep_pair.ensures.same
