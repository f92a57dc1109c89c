use Rattle.std.proofs.Common.{◌≡◌, ◌+◌, ◌++◌, ◌∷◌, [], take, ap, sym, subst, ◌∙◌}
use Rattle.std.proofs.lemmas.List.{take_more}
use Rattle.call_stacks.specs.Content.{content_of, ClosesAll}
use Rattle.call_stacks.proofs.Steps.{closes_all_push}
use Rattle.call_stacks.proofs.calls.Calls.close_all.Goals as goal

pub loop-closer-preserved : goal.loop-closer-preserved
loop-closer-preserved g c =
    let reads = g.E.CallRecord.reads in
    let all_kept = g.E.CallRecord.all_kept in
    let closers = c.args.closers.now in
    let i = c.loop-closer.closer-index in
    let e = c.closer-item.result in
    let more : take (i + 1) closers ≡ take i closers ++ e ∷ []
    = take_more closers i e c.loop-closer-test.true ∙ ap (λ x. take i closers ++ x ∷ []) (sym c.closer-item.is) in
    subst (λ l. ClosesAll reads all_kept (content_of c.args.self.now) l (content_of c.close.new.self)) (sym more)
    (closes_all_push reads all_kept (content_of c.args.self.now) (content_of c.loop-closer.self) (content_of c.close.new.self) (take i closers) e
    c.loop-closer.invariant c.in_ok-close.ensures)
