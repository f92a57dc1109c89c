use Rattle.std.proofs.Common.{◌++◌, map, ap, ◌∙◌}
use Rattle.audit_findings.specs.InTurn.{process_row}
use Rattle.audit_findings.proofs.handles.listed_handles.Goals as goal

pub returns : goal.returns
returns c =
    let row = process_row c.args.process in (
      c.in_ok-own.own.items,
      c.in_ok-own.ensures,
      c.in_ok-push_rows_of.ensures ∙ ap (λ rows. rows ++ map row c.as_slice.result.now) c.in_ok-rows.ensures.items
          ∙ ap (map row) c.as_slice.ensures.value,
    )
