use Rattle.std.proofs.Common.{ℕ, List, ◌++◌, ap, ◌∙◌}
use Rattle.std.specs.Prelude.{string_bytes}
use Rattle.std.specs.List.{flat_map}
use Rattle.audit_findings.specs.Findings.{findings_of}
use Rattle.report_text.specs.Line.{ended}
use Rattle.report_text.specs.Text.{report_lines, report_text}
use Rattle.report_text.proofs.Sections.{taken}
use Rattle.report_text.proofs.report.text.Goals as goal

pub returns : goal.returns
unfolding report_text
returns g c =
    let pushed = c.in_ok-push_report.ensures in
    let lines = report_lines (findings_of c.args.found.now) in
    taken _ (λ (text : _). string_bytes text) ended (λ old new line takes. takes) c.new-text.result c.push_report.new.lines lines pushed.taken
    ∙ ap (λ (t : List ℕ). t ++ flat_map ended lines) c.new-text.ensures.bytes
