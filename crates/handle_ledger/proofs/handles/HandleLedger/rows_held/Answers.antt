use Rattle.std.proofs.Common.{◌≡◌, ◌++◌, ◌∷◌, [], List, ℕ, map, ap, sym, ◌∙◌, rules}
use Rattle.std.proofs.lemmas.Cmp.{nat_cmp_total}
use Rattle.std.proofs.lemmas.List.{append-nil, append_assoc}
use Rattle.std.proofs.lemmas.Map.Lookups.{exact_unsigned}
use Rattle.std.specs.BTreeSet.{IsOrdered}
use Rattle.std.specs.Ordering.{nat_cmp}
use Rattle.handle_ledger.proofs.handles.HandleLedger.rows_held.Goals as goal
use Rattle.handle_ledger.specs.Held.{handles_of, held_row}
use Rattle.handle_ledger.specs.declared.held_row.HeldRow.{HeldRow}
use Rattle.summary_law.proofs.SortedLaws.{sorted_keys}

pub loop-handle-init : goal.loop-handle-init
loop-handle-init c = λ items held mine theirs.
    let none : c.new-rows.result.items ≡ [] = search rules in
    ap (λ (rows : List HeldRow). rows ++ map (held_row items held) c.into_iter-handle-iterator.result) none

pub loop-handle-preserved : goal.loop-handle-preserved
loop-handle-preserved c = λ items held mine theirs.
    let rows = c.loop-handle.rows.items in
    let row = c.held_row.result in
    let rest = map (held_row items held) c.next.new.self in
    let pushed : c.push.new.self.items ≡ rows ++ row ∷ [] = search rules in
    ap (λ (rows : List HeldRow). rows ++ rest) pushed
    ∙ append_assoc rows (row ∷ []) rest
    ∙ ap (λ (row : HeldRow). rows ++ row ∷ rest) (c.held_row.ensures items held mine theirs)
    ∙ ap (λ (handles : List ℕ). rows ++ map (held_row items held) handles) (sym c.in-Some.ensures.steps)
    ∙ c.loop-handle.invariant items held mine theirs

pub returns : goal.returns
returns c = λ items held mine theirs.
    let rows = c.loop-handle.rows.items in
    let handles = c.in_ok-handles.handles in
    let ordered : IsOrdered nat_cmp handles = search rules in
    let whole : c.into_iter-handle-iterator.result ≡ handles.keys = search rules in
    sym (append-nil rows)
    ∙ ap (λ (rest : List ℕ). rows ++ map (held_row items held) rest) (sym c.in-None.ensures.steps.0)
    ∙ c.loop-handle.invariant items held mine theirs
    ∙ ap (map (held_row items held))
    (whole ∙ sorted_keys nat_cmp exact_unsigned nat_cmp_total handles.keys (handles_of items held) ordered (c.in_ok-handles.ensures items held mine theirs))
