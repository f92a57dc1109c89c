use Rattle.std.proofs.Common.{refl}
use Rattle.audit_findings.specs.Kept.{call_at_place}
use Rattle.report_text.specs.CallRow.{row_of_kept}
use Rattle.transaction_view.specs.Transaction.{has_transaction_data}
use Rattle.report_text.proofs.Listed.{listed_lines, listed_rows}
use Rattle.report_text.proofs.call_row.OfCallsSection.rows.Goals as goal

pub returns-clause-readable : goal.returns-clause-readable
returns-clause-readable g c =
    let S = g.S.CallSection in
    listed_rows S.section call_at_place c.args.found.now c.calls.result.now c.calls.ensures (λ call. call.event) (λ call. call.event) (λ call. refl) has_transaction_data
    S.events

pub returns-clause-told : goal.returns-clause-told
returns-clause-told g c =
    let S = g.S.CallSection in
    listed_lines S.section call_at_place c.args.found.now c.calls.result.now c.calls.ensures (λ call. call.event) (λ call. call.event) (λ call. refl) has_transaction_data
    S.events (row_of_kept S.field) S.tells
