use Rattle.std.proofs.lemmas.Result.{on_ok_weaker}
use Rattle.std.proofs.Common.{[], ◌∷◌, ◌++◌, sym, subst, length-append, arith}
use Rattle.std.proofs.lemmas.List.{map-append}
use Rattle.event_core.specs.Events.{EventRead}
use Rattle.event_core.specs.Reading.{event_text}
use Rattle.audit_findings.specs.CodeCounts.{CountWords}
use Rattle.audit_findings.specs.Codes.{code_words}
use Rattle.audit_findings.proofs.FewLaws.{few_words, opaque-append, opaque_one, opaque_short}
use Rattle.audit_findings.proofs.NoTransaction.{counts_stay, flags_stay, test_fails}
use Rattle.audit_findings.proofs.OnewayCountLaws.{counts_both, counts_small}
use Rattle.audit_findings.proofs.event_ledgers.EventLedgers.add.Goals as goal

pub add-requires-clause-few : goal.add-requires-clause-few
add-requires-clause-few c =
    let events = c.requires.0 in
    (code_words events, c.requires.1.codes, few_words events (event_text c.args.event ∷ []) c.requires.2)

pub overflow_add-self-2 : goal.overflow_add-self-2
overflow_add-self-2 c =
    let e = event_text c.args.event in
    let events = c.requires.0 in
    let opaque = c.requires.1.opaque in
    let both = opaque-append events (e ∷ []) in
    let one = opaque_one e in
    let counted = c.opaque_count.ensures in
    let few = opaque_short (events ++ e ∷ []) in
    let short = c.requires.2.0 in
    omega (arith, opaque, both, one, counted, few, short)

pub plus-self-requires-clause-sent : goal.plus-self-requires-clause-sent
plus-self-requires-clause-sent c =
    (counts_small c.args.self.now.oneway c.of.result c.requires.0 (event_text c.args.event ∷ []) c.requires.2.0.0 c.requires.1.oneway c.of.ensures).0

pub plus-self-requires-clause-received : goal.plus-self-requires-clause-received
plus-self-requires-clause-received c =
    (counts_small c.args.self.now.oneway c.of.result c.requires.0 (event_text c.args.event ∷ []) c.requires.2.0.0 c.requires.1.oneway c.of.ensures).1

pub returns-then-is_none : goal.returns-then-is_none
returns-then-is_none c events sums fits =
    let e = event_text c.args.event in
    let none = test_fails _ _ c.args.event.carries c.is_none.result c.is_none.ensures c.if-is_none.true in
    let records = sums.records in
    let long = length-append events (e ∷ []) in
    let opaque = sums.opaque in
    let both = opaque-append events (e ∷ []) in
    let one = opaque_one e in
    let counted = c.opaque_count.ensures in
    record {
      records = omega (arith, records, long);
      opaque = omega (arith, opaque, both, one, counted);
      codes = subst (CountWords c.add.new.self) (sym (map-append (λ (other : EventRead). other.code) events (e ∷ [])))
          (c.in_ok-add.ensures (code_words events) sums.codes (few_words events (e ∷ []) fits));
      oneway = counts_stay c.args.self.now.oneway events e none sums.oneway;
      objects = c.in_ok-add-2.ensures events sums.objects fits;
      flags = flags_stay c.args.self.now.flags events e none sums.flags;
    }

pub returns : goal.returns
returns c =
    let e = event_text c.args.event in
    on_ok_weaker c.add-3.result
    (λ flags events sums fits.
    let records = sums.records in
    let long = length-append events (e ∷ []) in
    let opaque = sums.opaque in
    let both = opaque-append events (e ∷ []) in
    let one = opaque_one e in
    let counted = c.opaque_count.ensures in
    record {
      records = omega (arith, records, long);
      opaque = omega (arith, opaque, both, one, counted);
      codes = subst (CountWords c.add.new.self) (sym (map-append (λ (other : EventRead). other.code) events (e ∷ [])))
          (c.in_ok-add.ensures (code_words events) sums.codes (few_words events (e ∷ []) fits));
      oneway = counts_both c.args.self.now.oneway c.of.result c.plus-self.result events (e ∷ []) sums.oneway c.of.ensures
          c.plus-self.ensures.sent c.plus-self.ensures.received;
      objects = c.in_ok-add-2.ensures events sums.objects fits;
      flags = flags events sums.flags;
    })
    c.add-3.ensures
