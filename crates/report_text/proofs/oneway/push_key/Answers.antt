use Rattle.std.proofs.Common.{◌++◌, sym, ap, ◌∙◌}
use Rattle.event_core.specs.declared.oneway.OnewayKey.{OnewayKey}
use Rattle.report_text.specs.Oneway.{oneway_fields}
use Rattle.report_text.proofs.oneway.push_key.Goals as goal

pub returns-in-Received-clause-text : goal.returns-in-Received-clause-text
returns-in-Received-clause-text c =
    c.push_str.ensures.bytes ∙ ap (λ (key : OnewayKey). c.args.line.now.bytes ++ oneway_fields key) (sym c.in-Received.is)
