use Rattle.handle_ledger.proofs.handles.HandleLedger.held_row.Goals as goal

pub returns : goal.returns
returns c = λ items held mine theirs.
    let taken = c.taken.ensures items mine in
    let strong = (c.amount.ensures held theirs).count in
    let weak = (c.amount-2.ensures held theirs).count in
    λ i. record { handle = c.args.handle; taken = taken i; held_strong = strong i; held_weak = weak i }
