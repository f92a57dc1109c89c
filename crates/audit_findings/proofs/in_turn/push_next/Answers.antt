use Rattle.std.proofs.Common.{◌++◌, map, ap, ◌∙◌}
use Rattle.std.proofs.lemmas.Result.{on_ok_weaker}
use Rattle.audit_findings.specs.InTurn.{process_row}
use Rattle.audit_findings.proofs.in_turn.push_next.Goals as goal

pub returns : goal.returns
returns g c =
    on_ok_weaker c.push_rows_of.result
    (λ pushed. (
      c.in_ok-own.own.items,
      λ events is. c.in_ok-own.ensures events c.args.process is,
      pushed ∙ ap (λ own. c.args.rows.now.items ++ map (process_row c.args.process) own) c.as_slice.ensures.value,
    ))
    c.push_rows_of.ensures
