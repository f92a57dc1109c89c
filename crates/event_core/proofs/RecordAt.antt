-- The record at a place of a frame, and its event.
use Rattle.std.proofs.Common.{◌≡◌, ℕ, zero, suc, ◌-◌, inl, inr, true, List, [], ◌∷◌, length, drop, map, Option, Some, None, Result, Ok, Err, refl, sym, ap, subst, ◌∙◌, arith}
use Rattle.std.specs.Prelude.{Contains, IsSome, ◌↔◌, is_some}
use Rattle.std.specs.Option.{option_map}
use Rattle.std.proofs.lemmas.Bool.{cases_eq, eq-eqb, ne_eqb}
use Rattle.std.proofs.lemmas.List.Elements.{Contains-append_right}
use Rattle.capture_frame.specs.declared.fault.Fault.{Fault}
use Rattle.capture_frame.specs.declared.frame.Frame.{Frame}
use Rattle.capture_frame.specs.Envelope.{PlacedFrame, commands_place, placed_frame}
use Rattle.capture_frame.specs.ReadOn.{Parsed, with_unit}
use Rattle.capture_frame.specs.Tests.{at_place}
use Rattle.capture_frame.specs.Units.{Placed, placed_at}
use Rattle.capture_frame.proofs.ReadOnLaws.{unit_here}
use Rattle.record_view.specs.declared.record.Record.{Record}
use Rattle.record_view.specs.Records.{RecordText, protocol_of, record_parser, records_from, records_of}
use Rattle.record_view.specs.State.{Steps, placed_record}
use Rattle.record_view.proofs.RecordLaws.{begin_with, records_there}
use Rattle.event_core.specs.declared.event.Event.{Event}
use Rattle.event_core.specs.Events.{HasRecordAt, RecordIsAtPlace, event_at_place, event_of, events_of}
use Rattle.event_core.specs.Reading.{IsEventAt, event_text}

-- ---- an event is at a place exactly if a record is

module _ (frame : PlacedFrame) (place : ℕ) where
  record_there : (records : List (Placed RecordText)) → is_some (event_at_place place (map (event_of frame) records)) ≡ true
      → (found : RecordText) × Contains records (placed_at place found)
  record_there [] is = absurd cc
  record_there (r ∷ records) is = elim (cases_eq r.place place) [
    | inl same ↦ (r.unit, (0, omega arith, ap (λ (n : ℕ). placed_at n r.unit) same))
    | inr other ↦
        let later = record_there records (rw (ne_eqb r.place place other) at is) in
        (later.0, Contains-append_right (r ∷ []) records (placed_at place later.0) later.1)
  ]

  event_there : (records : List (Placed RecordText)) (found : RecordText) → Contains records (placed_at place found)
      → is_some (event_at_place place (map (event_of frame) records)) ≡ true
  event_there [] found (k, within, is) = absurd (omega (arith, within))
  event_there (r ∷ records) found (zero, within, is) = rw (eq-eqb r.place place (ap (λ (u : Placed RecordText). u.place) is)) refl
  event_there (r ∷ records) found (suc k, within, is) = elim (cases_eq r.place place) [
    | inl same ↦ rw (eq-eqb r.place place same) refl
    | inr other ↦ rw (ne_eqb r.place place other) (event_there records found (k, omega (arith, within), is))
  ]

  some_text : (result : Option Event) → is_some (option_map event_text result) ≡ is_some result
  some_text (Some found) = refl
  some_text None = refl

  pub there_exactly : (result : Option Event) → IsEventAt frame place result → IsSome result ↔ HasRecordAt frame place
  there_exactly result is =
      let same : is_some result ≡ is_some (event_at_place place (events_of frame)) = sym (some_text result) ∙ ap is_some is in
      (λ some. record_there (records_of frame).units (sym same ∙ some), λ has. same ∙ event_there (records_of frame).units has.0 has.1)

-- ---- a reader that begins at a record

gives_first : (there : Placed RecordText) (later new : Parsed RecordText) (result : Result (Option Record) Fault) → Steps (with_unit there later) result new
    → (given : Record) × (result ≡ Ok (Some given)) × (placed_record given ≡ there)
gives_first there later new (Ok (Some given)) steps =
    let units : there ∷ later.units ≡ steps.0 ∷ new.units = ap (λ (p : Parsed RecordText). p.units) steps.2 in
    let first : steps.0 ≡ there = cc in
    (given, refl, steps.1.same ∙ first)
gives_first there later new (Ok None) steps = absurd (omega (arith, ap (λ (p : Parsed RecordText). length p.units) steps.0))
gives_first there later new (Err fault) steps = absurd (omega (arith, ap (λ (p : Parsed RecordText). length p.units) steps.0))

-- what a reader gives that begins there
pub first_given : (frame : Frame) (place : ℕ) (found : RecordText) → RecordIsAtPlace (placed_frame frame) place found
    → (result : Result (Option Record) Fault) (new : Parsed RecordText) → Steps (records_from (placed_frame frame) place) result new
    → (given : Record) × (result ≡ Ok (Some given)) × (placed_record given ≡ placed_at place found)
first_given frame place found is_at result new steps =
    let there = rw is_at.2 at (records_there (placed_frame frame) is_at.0 (placed_at place found) is_at.1) in
    let parser = record_parser frame.direction in
    let bytes = drop (place - commands_place frame.place) frame.commands.now in
    let some = (begin_with (protocol_of frame.direction) bytes found there.2).whole in
    let ahead = unit_here parser tt place bytes found (omega (arith, some)) (ap (at_place place) there.2) (omega arith) in
    gives_first (placed_at place found) _ new result (subst (λ (p : Parsed RecordText). Steps p result new) ahead steps)
