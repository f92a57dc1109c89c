use Rattle.std.proofs.Common.{◌∙◌, arith}
use Rattle.audit_findings.specs.Objects.{good_objects}
use Rattle.audit_findings.proofs.AttachedObjects.{counts_are}
use Rattle.audit_findings.proofs.event_sections.EventSections+u64.of.Goals as goal

pub record_counts-requires : goal.record_counts-requires
record_counts-requires c =
    let short = c.requires.2.0.0 in
    (c.requires.0, c.requires.1.codes, omega (arith, short))

pub returns : goal.returns
returns c events sums =
    let codes = c.in_ok-codes.ensures events sums.codes in
    let counts = c.record_counts.ensures events sums.codes in
    let objects = counts_are c.args.ledgers.objects.counts (good_objects events) sums.objects.counted in
    let bad = c.of.ensures ∙ sums.objects.kept in
    let flags = c.of-2.ensures ∙ c.into_places.ensures events sums.flags in
    λ i. record {
      records = sums.records i;
      opaque = sums.opaque i;
      codes = codes i;
      counts = counts i;
      oneway = sums.oneway i;
      objects = objects i;
      bad_objects = bad i;
      flags = flags i;
    }
