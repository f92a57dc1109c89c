use Rattle.std.proofs.Common.{refl}
use Rattle.event_core.specs.Reading.{event_text}
use Rattle.event_core.specs.declared.oneway.OnewayKey.TheVariants.{Sent, Received}
use Rattle.audit_findings.proofs.OnewayCountLaws.{counts_one}
use Rattle.audit_findings.proofs.oneway_counts.OnewayCounts.of.Goals as goal

pub returns-in-Sent : goal.returns-in-Sent
returns-in-Sent c =
    counts_one (record { sent = 1; received = 0 }) (event_text c.args.event) c.in-Some.item (Sent c.in-Sent.field-0) c.in-Some.ensures c.in-Sent.is refl refl

pub returns-in-Received : goal.returns-in-Received
returns-in-Received c =
    counts_one (record { sent = 0; received = 1 }) (event_text c.args.event) c.in-Some.item Received c.in-Some.ensures c.in-Received.is refl refl
