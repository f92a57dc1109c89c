use Rattle.std.proofs.Common.{◌≡◌, ◌||◌, ◌∙◌, [], ap, sym, rules, refl}
use Rattle.std.specs.BTreeSet.{contains}
use Rattle.std.specs.List.{list_any}
use Rattle.std.specs.Map.{keys_of}
use Rattle.std.specs.Ordering.{eq_by_cmp, nat_cmp}
use Rattle.handle_ledger.proofs.HeldLaws.{inserted, or_false}
use Rattle.handle_ledger.proofs.handles.HandleLedger.named.Goals as goal

pub loop-handle-init : goal.loop-handle-init
loop-handle-init c = λ q.
    let whole : c.into_iter-handle-iterator.result ≡ c.args.self.now.handles.entries = search rules in
    let none : c.new-handles.result.keys ≡ [] = c.new-handles.ensures.empty in
    rw (whole, none) refl

pub loop-handle-preserved : goal.loop-handle-preserved
loop-handle-preserved c = λ q.
    let rest = list_any (eq_by_cmp nat_cmp q) (keys_of c.next.new.self) in
    inserted c.loop-handle.handles c.insert.new.self c.in-Some.handle.now q rest c.in_ok-insert.ensures.updates
    ∙ ap (λ es. contains nat_cmp c.loop-handle.handles q || list_any (eq_by_cmp nat_cmp q) (keys_of es)) (sym c.in-Some.ensures.steps)
    ∙ c.loop-handle.invariant q

pub returns-clause-ordered : goal.returns-clause-ordered
returns-clause-ordered c = c.into_iter-handle-iterator.ensures.into_iter_gives.1

pub returns-clause-named : goal.returns-clause-named
returns-clause-named c = λ q.
    or_false _
    ∙ ap (λ es. contains nat_cmp c.loop-handle.handles q || list_any (eq_by_cmp nat_cmp q) (keys_of es)) (sym c.in-None.ensures.steps.0)
    ∙ c.loop-handle.invariant q
