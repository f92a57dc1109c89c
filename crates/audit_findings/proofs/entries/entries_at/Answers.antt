use Rattle.std.proofs.Common.{◌<◌, length, sym, ap, subst, ◌∙◌, arith}
use Rattle.std.proofs.lemmas.List.{length-drop}
use Rattle.capture_frame.specs.Envelope.{placed_frame}
use Rattle.audit_findings.proofs.EntriesAhead.{HasRead, all_at_end, apart_ahead, begins_with, begins_with_none, few_bytes, good_there, read_frame, read_none, some_begun}
use Rattle.audit_findings.proofs.entries.entries_at.Goals.{in-Some+then-count-eq0, in_default}
use Rattle.audit_findings.proofs.entries.entries_at.Goals as goal

pub loop-first-init : goal.loop-first-init
loop-first-init c =
    read_none c.args.frames.now c.without_first-ahead.result c.args.places.now c.new-entries.result.items c.without_first-ahead.ensures c.new-entries.ensures.items

pub count_begun-count-requires : goal.count_begun-count-requires
count_begun-count-requires c =
    apart_ahead c.args.frames.now c.args.places.now c.loop-first.ahead c.loop-first.rest.now c.loop-first.entries.items c.requires c.loop-first.invariant

pub add_frame-requires : goal.add_frame-requires
add_frame-requires c =
    let none = c.if-count-eq0.false in
    let begins = begins_with c.loop-first.rest.now c.in-Some.first.now (rw c.in-Some.is at c.first.ensures.value) in
    good_there c.args.frames.now c.args.places.now c.loop-first.ahead c.loop-first.rest.now c.loop-first.entries.items c.requires c.loop-first.invariant
    c.in-Some.first.now begins.0 begins.1 c.count_begun-count.result c.count_begun-count.ensures (placed_frame c.get.result) c.get.ensures (omega (arith, none))

pub loop-first-smaller : goal.loop-first-smaller
loop-first-smaller c =
    let none = c.if-count-eq0.false in
    let within = c.count_begun-count.ensures.within in
    let ahead = c.loop-first.ahead in
    let long = ap length c.without_first-ahead-in-Some.ensures ∙ length-drop c.count_begun-count.result ahead in
    let fewer : length c.without_first-ahead-in-Some.result < length ahead = omega (arith, none, within, long) in
    fewer

pub loop-first-preserved : goal.loop-first-preserved
loop-first-preserved c =
    let none = c.if-count-eq0.false in
    let new = c.add_frame.new.entries.items in
    let begins = begins_with c.loop-first.rest.now c.in-Some.first.now (rw c.in-Some.is at c.first.ensures.value) in
    subst (λ fs. HasRead c.args.frames.now c.args.places.now fs c.in_ok-rest.rest.now new) (sym c.without_first-ahead-in-Some.ensures)
    (read_frame c.args.frames.now c.args.places.now c.loop-first.ahead c.loop-first.rest.now c.loop-first.entries.items c.requires c.loop-first.invariant
    c.in-Some.first.now begins.0 begins.1 c.count_begun-count.result c.count_begun-count.ensures (placed_frame c.get.result) c.get.ensures (omega (arith, none))
    new c.in_ok-rest.rest.now c.in_ok-rest.ensures.few (rw begins.1 at c.in_ok-rest.ensures.entries))

pub returns-clause-few : goal.returns-clause-few
returns-clause-few c =
    few_bytes c.args.frames.now c.args.places.now c.loop-first.ahead c.loop-first.rest.now c.loop-first.entries.items c.requires c.loop-first.invariant

pub returns-clause-entries : goal.returns-clause-entries
returns-clause-entries c =
    elim c.match-first.branch [
      | in-Some+then-count-eq0 w ↦
          let begins = begins_with c.loop-first.rest.now w.in-Some.first.now (rw w.in-Some.is at c.first.ensures.value) in
          some_begun c.args.frames.now c.args.places.now c.loop-first.ahead c.loop-first.rest.now c.loop-first.entries.items c.requires c.loop-first.invariant
          w.in-Some.first.now begins.0 begins.1 w.count_begun-count.result w.count_begun-count.ensures w.if-count-eq0.true
      | in_default w ↦
          all_at_end c.args.frames.now c.args.places.now c.loop-first.ahead c.loop-first.rest.now c.loop-first.entries.items c.requires c.loop-first.invariant
          (begins_with_none c.loop-first.rest.now (rw w.in_default.is at c.first.ensures.value))
    ]
