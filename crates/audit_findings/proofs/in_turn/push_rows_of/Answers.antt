use Rattle.std.proofs.Common.{◌≡◌, ◌++◌, map, take, ap, ◌∙◌, arith}
use Rattle.std.proofs.lemmas.List.{take_all}
use Rattle.audit_findings.specs.InTurn.{process_row}
use Rattle.audit_findings.proofs.in_turn.push_rows_of.Goals as goal

pub returns : goal.returns
returns g c =
    let items = c.args.own.now in
    let whole : take c.loop-row.row-index items ≡ items = take_all c.loop-row.row-index items (omega arith) in
    c.loop-row.invariant ∙ ap (λ rows. c.args.rows.now.items ++ map (process_row c.args.process) rows) whole
