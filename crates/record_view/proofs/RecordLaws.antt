-- What holds of the records of a frame.
use Rattle.std.proofs.Common.{◌≡◌, ℕ, ◌+◌, ◌-◌, ◌≤◌, true, List, ◌++◌, length, take, drop, All, AllPairs, sum_by, Result, Ok, Err, refl, sym, ap, subst, ◌∙◌, arith}
use Rattle.std.specs.Prelude.{slice_index_or}
use Rattle.std.proofs.lemmas.Bool.{leb-true, le-leb}
use Rattle.std.proofs.lemmas.List.{take-append-drop, drop-drop, length-take, length-drop}
use Rattle.byteorder.specs.Endian.{little_bytes}
use Rattle.binder_code.specs.declared.protocol.Protocol.{Protocol}
use Rattle.binder_code.specs.declared.code.CodeFault.{CodeFault}
use Rattle.binder_code.specs.declared.code.CodeFault.TheVariants as code_fault
use Rattle.binder_code.specs.declared.record_kind.Kind.{Kind}
use Rattle.binder_code.specs.Code.{size}
use Rattle.binder_code.specs.Commands.{kind_of}
use Rattle.capture_frame.specs.declared.direction.Direction.{Direction}
use Rattle.capture_frame.specs.Envelope.{PlacedFrame, commands_place, number_at}
use Rattle.capture_frame.specs.Units.{IsBytes}
use Rattle.capture_frame.proofs.NumberLaws.{number_spelled}
use Rattle.capture_frame.proofs.ReadOnLaws.{HasWidths, units_there}
use Rattle.capture_frame.proofs.TestLaws.{passed, passes, found_there}
use Rattle.record_view.proofs.UnitLaws.{units_apart, units_fit}
use Rattle.record_view.specs.Records.{RecordText, record_bytes, record_width, code_at, is_directed, is_sized, record_tests, record_at_start, record_at, record_parser, records_of, protocol_of}

-- ---- one record

-- the bytes begin with this record: its code word means a kind, and all of its payload is there
pub record BeginWith (protocol : Protocol) (bytes : List ℕ) (r : RecordText) : Type 0 where
  pub is : r ≡ record_at_start bytes
  pub whole : 4 + size (code_at bytes) ≤ length bytes
  pub kind : Kind
  pub means : kind_of protocol (code_at bytes) ≡ Ok kind

pub record_good : (protocol : Protocol) (bytes : List ℕ) (kind : Kind) → kind_of protocol (code_at bytes) ≡ Ok kind
    → 4 + size (code_at bytes) ≤ length bytes → record_at protocol bytes ≡ Ok (record_at_start bytes)
record_good protocol bytes kind means whole =
    passes (record_tests protocol bytes) (record_at_start bytes)
    (le-leb 4 (length bytes) (omega arith), (ap is_directed means, (ap is_sized means, (le-leb (4 + size (code_at bytes)) (length bytes) whole, tt))))

meaning : (judged : Result Kind CodeFault) → is_directed judged ≡ true → is_sized judged ≡ true → (kind : Kind) × (judged ≡ Ok kind)
meaning (Ok kind) directed sized = (kind, refl)
meaning (Err code_fault.Direction) directed sized = absurd (cc)
meaning (Err code_fault.Size) directed sized = absurd (cc)

pub begin_with : (protocol : Protocol) (bytes : List ℕ) (r : RecordText) → record_at protocol bytes ≡ Ok r → BeginWith protocol bytes r
begin_with protocol bytes r is =
    let all = passed (record_tests protocol bytes) (record_at_start bytes) r is in
    let means = meaning (kind_of protocol (code_at bytes)) all.1.1.0 all.1.1.1.0 in
    record { is = all.0; whole = leb-true _ (length bytes) all.1.1.1.1.0; kind = means.0; means = means.1 }

-- a record at the start of bytes is as wide as its code word says
pub width_at_start : (bytes : List ℕ) → 4 + size (code_at bytes) ≤ length bytes → record_width (record_at_start bytes) ≡ 4 + size (code_at bytes)
width_at_start bytes whole = omega (arith, length-take (size (code_at bytes)) (drop 4 bytes), length-drop 4 bytes)

pub widths : (direction : Direction) → HasWidths (record_parser direction)
widths direction = record {
  some = λ r. omega arith;
  fits = λ _ place bytes r is.
      let begins = begin_with (protocol_of direction) bytes r (found_there place (record_at (protocol_of direction) bytes) r is) in
      let whole = begins.whole in
      omega (arith, ap record_width begins.is, width_at_start bytes whole);
}

-- what is read is written so
spelled : (bytes : List ℕ) → IsBytes bytes → 4 + size (code_at bytes) ≤ length bytes
    → bytes ≡ record_bytes (record_at_start bytes) ++ drop (4 + size (code_at bytes)) bytes
unfolding record_bytes number_at
spelled bytes h whole =
    let n = size (code_at bytes) in
    number_spelled 4 bytes h (omega arith)
    ∙ ap (λ (t : List ℕ). little_bytes 4 (code_at bytes) ++ t) (sym (take-append-drop n (drop 4 bytes)) ∙ ap (λ (t : List ℕ). take n (drop 4 bytes) ++ t) (drop-drop n 4 bytes))

pub record_spelled : (protocol : Protocol) (bytes : List ℕ) (r : RecordText) → IsBytes bytes → record_at protocol bytes ≡ Ok r
    → bytes ≡ record_bytes r ++ drop (record_width r) bytes
record_spelled protocol bytes r h is =
    let begins = begin_with protocol bytes r is in
    subst (λ (x : RecordText). bytes ≡ record_bytes x ++ drop (record_width x) bytes) (sym begins.is)
    (spelled bytes h begins.whole ∙ ap (λ (n : ℕ). record_bytes (record_at_start bytes) ++ drop n bytes) (sym (width_at_start bytes begins.whole)))

-- ---- the records of a frame

module _ (frame : PlacedFrame) where
  pub records_there : All (λ there. (commands_place frame.place ≤ there.place)
      × (there.place + record_width there.unit ≤ commands_place frame.place + length frame.unit.commands)
      × (record_at (protocol_of frame.unit.direction) (drop (there.place - commands_place frame.place) frame.unit.commands) ≡ Ok there.unit))
      (records_of frame).units
  records_there k d less =
      let is = units_there (record_parser frame.unit.direction) (widths frame.unit.direction) tt (commands_place frame.place) frame.unit.commands k d less in
      let there = slice_index_or (records_of frame).units k d in
      (is.from, is.within, found_there there.place (record_at (protocol_of frame.unit.direction) (drop (there.place - commands_place frame.place) frame.unit.commands)) there.unit is.is)

  -- each record ends before every later one begins
  pub records_apart : AllPairs (λ earlier later. earlier.place + record_width earlier.unit ≤ later.place) (records_of frame).units
  records_apart = units_apart (record_parser frame.unit.direction) (widths frame.unit.direction) tt (commands_place frame.place) frame.unit.commands

  -- the records together are no longer than the command bytes
  pub records_fit : sum_by (λ there. record_width there.unit) (records_of frame).units ≤ length frame.unit.commands
  records_fit = units_fit (record_parser frame.unit.direction) (widths frame.unit.direction) tt (commands_place frame.place) frame.unit.commands
