use Rattle.std.proofs.Common.{◌≡◌, ℕ, ◌+◌, length, sym, ap, ◌∙◌, arith, rules}
use Rattle.std.proofs.lemmas.Bool.{eqb-false}
use Rattle.std.proofs.lemmas.List.{take_rest}
use Rattle.binder_code.specs.Commands.{protocol_of_word}
use Rattle.binder_code.proofs.WordKinds.{kind_of_word-is}
use Rattle.capture_frame.specs.Envelope.{commands_place}
use Rattle.capture_frame.specs.Tests.{at_place, fault_at}
use Rattle.capture_frame.specs.Units.{placed_at}
use Rattle.capture_frame.proofs.ReadOnLaws.{gives_unit, gives_fault, stays_within}
use Rattle.record_view.specs.Records.{record_parser}
use Rattle.record_view.specs.State.{IsRecordView, ahead_of, record_text}
use Rattle.record_view.proofs.RecordLaws.{widths}
use Rattle.record_view.proofs.records.Records.next_record.Goals as goal

pub invariant_of-self : goal.invariant_of-self
invariant_of-self c =
    let frame = c.self.inside.frame in
    let start = commands_place frame.place in
    let within = stays_within (record_parser frame.direction) (widths frame.direction) IsRecordView tt start c.in-At.offset frame.commands.now
    _ (take_rest frame.commands.now c.in-At.offset) (record_text c.in-Ok.record) (search rules)
    (ap (at_place (start + c.in-At.offset)) (rw c.protocol.ensures at c.in-Ok.ensures.0)) in
    omega (arith, within)

pub returns-in-Ok : goal.returns-in-Ok
returns-in-Ok c =
    let frame = c.self.inside.frame in
    let found = c.in-Ok.record in
    let offset = c.in-At.offset in
    let start = commands_place frame.place in
    let sum : offset + 4 + length found.payload.now ≡ offset + (4 + length found.payload.now) = omega arith in
    rw (sym c.self.view_is ∙ ap (ahead_of frame) c.in-At.is, sum)
    (gives_unit (record_parser frame.direction) (widths frame.direction) IsRecordView tt start offset frame.commands.now _ (take_rest frame.commands.now offset)
    (record_text found) found (omega (arith, eqb-false _ 0 (sym c.is_empty.ensures ∙ c.if-is_empty.false)))
    (ap (at_place (start + offset)) (rw c.protocol.ensures at c.in-Ok.ensures.0))
    (record {
      same = ap (λ (n : ℕ). placed_at n (record_text found)) (c.in-Ok.ensures.1 ∙ ap (λ (n : ℕ). n + offset) c.commands_place.ensures);
      kind = sym (kind_of_word-is (protocol_of_word found.code.0) found.code.0 found.kind found.by_code);
    }))

pub returns-in-Err : goal.returns-in-Err
returns-in-Err c =
    let frame = c.self.inside.frame in
    let offset = c.in-At.offset in
    let start = commands_place frame.place in
    rw (sym c.self.view_is ∙ ap (ahead_of frame) c.in-At.is, c.commands_place.ensures)
    (gives_fault (record_parser frame.direction) (widths frame.direction) IsRecordView tt start offset frame.commands.now _ (take_rest frame.commands.now offset)
    (fault_at c.in-Err.kind (start + offset)) (omega (arith, eqb-false _ 0 (sym c.is_empty.ensures ∙ c.if-is_empty.false)))
    (ap (at_place (start + offset)) (rw c.protocol.ensures at c.in-Err.ensures)))
