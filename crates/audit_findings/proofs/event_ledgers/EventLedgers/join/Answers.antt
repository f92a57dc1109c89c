use Rattle.std.proofs.Common.{sym, subst, length-append, arith}
use Rattle.std.proofs.lemmas.List.{map-append}
use Rattle.event_core.specs.Events.{EventRead}
use Rattle.audit_findings.specs.CodeCounts.{CountWords}
use Rattle.audit_findings.specs.Codes.{code_words}
use Rattle.audit_findings.proofs.FewLaws.{few_words, opaque-append}
use Rattle.audit_findings.proofs.OnewayCountLaws.{counts_both, counts_small}
use Rattle.audit_findings.proofs.event_ledgers.EventLedgers.join.Goals as goal

pub join-codes-requires : goal.join-codes-requires
join-codes-requires c =
    let first = c.requires.0 in
    let second = c.requires.1 in
    (code_words first, code_words second, c.requires.2.codes, c.requires.3.codes, few_words first second c.requires.4)

pub plus-requires-clause-sent : goal.plus-requires-clause-sent
plus-requires-clause-sent c =
    (counts_small c.args.self.oneway c.args.later.oneway c.requires.0 c.requires.1 c.requires.4.0.0 c.requires.2.oneway c.requires.3.oneway).0

pub plus-requires-clause-received : goal.plus-requires-clause-received
plus-requires-clause-received c =
    (counts_small c.args.self.oneway c.args.later.oneway c.requires.0 c.requires.1 c.requires.4.0.0 c.requires.2.oneway c.requires.3.oneway).1

pub returns : goal.returns
returns c first second sums others fits =
    let records = sums.records in
    let more = others.records in
    let long = length-append first second in
    let opaque = sums.opaque in
    let more_opaque = others.opaque in
    let both = opaque-append first second in
    record {
      records = omega (arith, records, more, long);
      opaque = omega (arith, opaque, more_opaque, both);
      codes = subst (CountWords c.in_ok-codes.field-0) (sym (map-append (λ (e : EventRead). e.code) first second))
          (c.in_ok-codes.ensures (code_words first) (code_words second) sums.codes others.codes (few_words first second fits));
      oneway = counts_both c.args.self.oneway c.args.later.oneway c.plus.result first second sums.oneway others.oneway
          c.plus.ensures.sent c.plus.ensures.received;
      objects = c.in_ok-objects.ensures first second sums.objects others.objects fits;
      flags = c.in_ok-flags.ensures first second sums.flags others.flags;
    }
