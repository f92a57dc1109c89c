use Rattle.std.proofs.lemmas.Result.{on_ok_weaker}
use Rattle.audit_findings.specs.Findings.{findings_of}
use Rattle.report_text.specs.Text.{title, totals}
use Rattle.report_text.proofs.Pushes.{one_pushed, none_pushed, ◌⨾◌}
use Rattle.report_text.proofs.report.push_report.Goals as goal

pub returns : goal.returns
returns g c =
    on_ok_weaker c.push_section-15.result
    (λ last.
    one_pushed title c.title_line.ensures c.in_ok-push_line.ensures
    ⨾ one_pushed (totals (findings_of c.args.found.now)) c.totals_line.ensures c.in_ok-push_line-2.ensures
    ⨾ c.in_ok-push_section.ensures ⨾ c.in_ok-push_section-2.ensures ⨾ c.in_ok-push_section-3.ensures ⨾ c.in_ok-push_section-4.ensures
    ⨾ c.in_ok-push_section-5.ensures ⨾ c.in_ok-push_section-6.ensures ⨾ c.in_ok-push_section-7.ensures ⨾ c.in_ok-push_section-8.ensures
    ⨾ c.in_ok-push_section-9.ensures ⨾ c.in_ok-push_section-10.ensures ⨾ c.in_ok-push_section-11.ensures ⨾ c.in_ok-push_section-12.ensures
    ⨾ c.in_ok-push_section-13.ensures ⨾ c.in_ok-push_section-14.ensures
    ⨾ last ⨾ none_pushed)
    c.push_section-15.ensures
