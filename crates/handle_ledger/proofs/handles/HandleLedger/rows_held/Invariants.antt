use Rattle.std.proofs.Common.{◌≡◌, ◌++◌, map}
use Rattle.handle_ledger.specs.Held.{ForWhateverIsSummed, held_row}
use Rattle.handle_ledger.proofs.handles.HandleLedger.rows_held.Given as goal

-- the rows so far and the rows of the handles to come are the rows of all handles
abbrev pub invariant-loop-handle : goal.invariant-loop-handle
invariant-loop-handle l =
    ForWhateverIsSummed l.self l.held (λ items held. l.rows.items ++ map (held_row items held) l.handle-iterator ≡ map (held_row items held) l.initial.handle-iterator)
