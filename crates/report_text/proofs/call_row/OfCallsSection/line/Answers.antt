use Rattle.std.proofs.Common.{ap, ◌∙◌}
use Rattle.report_text.specs.CallRow.{row_of_kept}
use Rattle.transaction_view.specs.Transaction.{has_transaction_data}
use Rattle.report_text.proofs.Listed.{row_kind}
use Rattle.report_text.proofs.call_row.OfCallsSection.line.Goals as goal

pub call_row-requires : goal.call_row-requires
call_row-requires g c =
    row_kind has_transaction_data c.args.found.now c.args.kept.now.event c.record_at.result c.requires c.record_at.ensures

pub returns : goal.returns
returns g c = λ e there is.
    c.call_row.ensures ∙ ap (row_of_kept g.S.CallSection.field c.args.kept.now) (c.record_at.ensures e there is)
