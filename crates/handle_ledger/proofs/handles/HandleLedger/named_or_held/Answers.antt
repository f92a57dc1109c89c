use Rattle.std.proofs.Common.{◌≡◌, ◌||◌, ◌∙◌, ap, ap₂, map, sym, take}
use Rattle.std.proofs.lemmas.List.Folds.{list_any-append}
use Rattle.std.specs.Map.{keys_of}
use Rattle.std.specs.Ordering.{eq_by_cmp, nat_cmp}
use Rattle.std.proofs.lemmas.List.{take_all}
use Rattle.std.specs.List.{list_any}
use Rattle.handle_ledger.proofs.HeldLaws.{held_handles, is_of, named_entries, next_inserted, or_false}
use Rattle.handle_ledger.proofs.handles.HandleLedger.named_or_held.Goals as goal

pub loop-row-init : goal.loop-row-init
loop-row-init c = λ q. or_false _

pub loop-row-preserved : goal.loop-row-preserved
loop-row-preserved c = λ q.
    next_inserted c.loop-row.handles c.insert.new.self _ q c.as_slice-row-items.result.now c.loop-row.row-index _ c.loop-row-test.true
    c.in_ok-insert.ensures.updates (c.loop-row.invariant q)

pub returns : goal.returns
returns c = λ items held mine theirs q.
    let rows = c.as_slice-row-items.result.now in
    let all : take c.loop-row.row-index rows ≡ c.in_ok-rows.rows.items
    = take_all c.loop-row.row-index rows c.loop-row-test.false ∙ c.as_slice-row-items.ensures.value in
    c.loop-row.invariant q
    ∙ ap₂ ◌||◌
    (c.in_ok-handles.ensures.named q ∙ named_entries c.args.self.now.handles c.in_ok-handles.ensures.ordered items mine q)
    (ap (list_any (is_of q)) all ∙ held_handles held c.in_ok-rows.rows.items (c.in_ok-rows.ensures held theirs) q)
    ∙ sym (list_any-append (eq_by_cmp nat_cmp q) (keys_of items) (map (λ reference. reference.0.0) held))
