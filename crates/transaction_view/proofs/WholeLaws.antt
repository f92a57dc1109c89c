-- Frames that are judged with their content, and frames as their headers cut them.
use Rattle.std.proofs.Common.{◌≡◌, ℕ, ◌+◌, ◌<◌, ◌≤◌, ◌⊎◌, inl, inr, Bool, true, false, ltb, cond, List, [], ◌∷◌, length, drop, map, Option, Some, None, option_map, Result, Ok, Err, refl, sym, ap, ap₂, subst, ◌∙◌, length-drop, arith}
use Rattle.std.specs.Prelude.{◌==◌, ◌&&◌, nat_le, is_some}
use Rattle.std.proofs.lemmas.Bool.Decides.{nat_tests}
use Rattle.std.specs.Option.{option_or}
use Rattle.binder_code.specs.Commands.{kind_of}
use Rattle.capture_frame.specs.declared.direction.Direction.{Direction}
use Rattle.capture_frame.specs.declared.fault.Fault.{Fault}
use Rattle.capture_frame.specs.declared.fault.FaultKind.{FaultKind}
use Rattle.capture_frame.specs.declared.fault.FaultKind.TheVariants.{AttachShort, AttachRecord, AttachSize}
use Rattle.capture_frame.specs.Envelope.{FrameText, PlacedFrame, Before, attachments_place, commands_place, frame_width}
use Rattle.capture_frame.specs.Frames.{frame_at, frame_parser}
use Rattle.capture_frame.specs.ReadOn.{Parser, Parsed, at_fault, with_unit, parsed_by}
use Rattle.capture_frame.specs.Tests.{tested, at_place, fault_at, is_above}
use Rattle.capture_frame.specs.Units.{Placed, placed_at}
use Rattle.capture_frame.proofs.FrameLaws.{frame_widths, frame_stays}
use Rattle.capture_frame.proofs.PartLaws.{IsWide}
use Rattle.capture_frame.proofs.ReadOnLaws.{HasWidths, by_units, unit_here, fault_here, moved, moved_unit, map_none, at_place-moves, all_moved, moves}
use Rattle.capture_frame.proofs.TestLaws.{found_there, fault_there}
use Rattle.record_view.specs.Records.{RecordText, protocol_of, record_at, record_parser, records_of}
use Rattle.record_view.proofs.RecordLaws as records
use Rattle.transaction_view.specs.Attachments.{EntryText, entry_length, entry_width, has_data, has_sizes, owner_among, owner_at, owner_place, entry_tests, entry_at_start, entry_at, entry_parser, entries_of}
use Rattle.transaction_view.specs.Grammar.{content_fault, first_content_fault, unless, with_content, whole_parser}
use Rattle.transaction_view.proofs.EntryLaws.{widths}

-- ---- a fault lies within the bytes

within : {S U : Type 0} (parser : Parser S U) → HasWidths parser
    → ((state : S) (place : ℕ) (bytes : List ℕ) (fault : Fault) → parser.first state place bytes ≡ Err fault → fault.place ≡ place)
    → (state : S) (place : ℕ) (bytes : List ℕ) (fault : Fault) → (parsed_by parser state place bytes).fault ≡ Some fault
    → (place ≤ fault.place) × (fault.place < place + length bytes)
within parser wide here = by_units parser wide
    (λ state place bytes found. (fault : Fault) → found.fault ≡ Some fault → (place ≤ fault.place) × (fault.place < place + length bytes))
    (λ state place fault is. absurd (cc))
    (λ state place bytes other some first fault is.
    let at = here state place bytes other first in
    let same : other ≡ fault = cc in
    let place_is = ap (λ (f : Fault). f.place) same in (omega arith, omega arith))
    (λ state place bytes unit later some first others fault is.
    let w = parser.width unit in
    let wide_enough = wide.some unit in
    let fits = wide.fits state place bytes unit first in
    let both = others fault is in
    (omega (arith, both.0), omega (arith, both.1, length-drop w bytes)))

one_of : (a b : Option Fault) (fault : Fault) → option_or a b ≡ Some fault → (a ≡ Some fault) ⊎ (b ≡ Some fault)
one_of (Some first) b fault is = inl is
one_of None b fault is = inr is

pub fault_held : (frame : PlacedFrame) (fault : Fault) → content_fault frame ≡ Some fault
    → (frame.place + 32 ≤ fault.place) × (fault.place < frame.place + frame_width frame.unit)
fault_held frame fault is =
    let direction = frame.unit.direction in
    elim (one_of (records_of frame).fault (entries_of frame).fault fault is) [
      | inl of_records ↦
          (let both = within (record_parser direction) (records.widths direction) (λ _ place bytes f first. (fault_there place (record_at (protocol_of direction) bytes) f first).1)
          tt (commands_place frame.place) frame.unit.commands fault of_records in (omega (arith, both.0), omega (arith, both.1)))
      | inr of_entries ↦
          (let both = within (entry_parser frame) (widths frame) (λ before place bytes f first. (fault_there place (entry_at frame before bytes) f first).1)
          None (attachments_place frame.unit frame.place) frame.unit.attachments fault of_entries in (omega (arith, both.0), omega (arith, both.1)))
    ]

-- ---- a frame at another place

module _ (n : ℕ) where
  equal_moves : (p q : ℕ) → (n + p == n + q) ≡ (p == q)
  equal_moves p q = grind (arith, nat_tests)

  less_moves : (p q : ℕ) → ltb (n + p) (n + q) ≡ ltb p q
  less_moves p q = grind (arith, nat_tests)

  either_moves : (b : Bool) (r : Placed RecordText) (later others : Option (Placed RecordText)) → option_map (λ x. x.unit) later ≡ option_map (λ x. x.unit) others
      → option_map (λ x. x.unit) (cond b (Some (moved_unit n r)) later) ≡ option_map (λ x. x.unit) (cond b (Some r) others)
  either_moves true r later others same = refl
  either_moves false r later others same = same

  owner_moves : (direction : Direction) (place : ℕ) (records : List (Placed RecordText))
      → owner_among direction (n + place) (map (moved_unit n) records) ≡ owner_among direction place records
  owner_moves direction place [] = refl
  owner_moves direction place (r ∷ records) =
      rw (equal_moves r.place place) (either_moves ((r.place == place) && has_data (kind_of (protocol_of direction) r.unit.code)) r _ _ (owner_moves direction place records))

  abbrev moved_before : Option ℕ → Option ℕ
  moved_before before = option_map (λ (place : ℕ). n + place) before

  above_moves : (before : Option ℕ) (place : ℕ) → is_above (moved_before before) (n + place) ≡ is_above before place
  above_moves None place = refl
  above_moves (Some last) place = less_moves last place

  -- an entry whose record is at the moved place
  abbrev moved_entry : EntryText → EntryText
  moved_entry e = record { owner = n + e.owner; body = e.body; offset_bytes = e.offset_bytes }

  abbrev moved_result : Result EntryText FaultKind → Result EntryText FaultKind
  moved_result (Ok e) = Ok (moved_entry e)
  moved_result (Err kind) = Err kind

  tested_moves : (tests : List (Bool × FaultKind)) (e : EntryText) → tested tests (moved_entry e) ≡ moved_result (tested tests e)
  tested_moves [] e = refl
  tested_moves ((true, kind) ∷ tests) e = tested_moves tests e
  tested_moves ((false, kind) ∷ tests) e = refl

  pub either_moved : (a b : Option Fault) → option_or (option_map (moved n) a) (option_map (moved n) b) ≡ option_map (moved n) (option_or a b)
  either_moved (Some fault) b = refl
  either_moved None b = refl

  module _ (place : ℕ) (f : FrameText) where
    abbrev here : PlacedFrame
    here = placed_at place f

    abbrev there : PlacedFrame
    there = placed_at (n + place) f

    records_move : records_of there ≡ all_moved n (records_of here)
    records_move =
        let further : commands_place (n + place) ≡ n + commands_place place = omega arith in
        ap (λ (p : ℕ). parsed_by (record_parser f.direction) tt p f.commands) further
        ∙ moves (record_parser f.direction) (records.widths f.direction) n (λ _ p bytes. at_place-moves n p (record_at (protocol_of f.direction) bytes)) tt (commands_place place) f.commands

    abbrev by_tests : List ℕ → Bool → Option RecordText → EntryText → Result EntryText FaultKind
    by_tests bytes above owner e = tested ((nat_le 12 (length bytes), AttachShort) ∷ (nat_le (entry_length bytes) (length bytes), AttachShort)
        ∷ (above, AttachRecord) ∷ (is_some owner, AttachRecord) ∷ (has_sizes owner bytes, AttachSize) ∷ []) e

    entry_moves : (before : Option ℕ) (bytes : List ℕ) → entry_at there (moved_before before) bytes ≡ moved_result (entry_at here before bytes)
    entry_moves before bytes =
        let q = owner_place here bytes in
        let further : owner_place there bytes ≡ n + q = omega arith in
        let start : entry_at_start there bytes ≡ moved_entry (entry_at_start here bytes) = rw further refl in
        ap₂ (λ (above : Bool) (owner : Option RecordText). by_tests bytes above owner (entry_at_start there bytes))
        (ap (is_above (moved_before before)) further ∙ above_moves before q)
        (ap (owner_at there) further ∙ ap (λ (found : Parsed RecordText). owner_among f.direction (n + q) found.units) records_move
        ∙ owner_moves f.direction q (records_of here).units)
        ∙ ap (by_tests bytes (is_above before q) (owner_at here q)) start ∙ tested_moves (entry_tests here before bytes) (entry_at_start here bytes)

    entries_move : (before : Option ℕ) (from : ℕ) (bytes : List ℕ)
        → (parsed_by (entry_parser there) (moved_before before) (n + from) bytes).fault ≡ option_map (moved n) (parsed_by (entry_parser here) before from bytes).fault
    entries_move = by_units (entry_parser here) (widths here)
        (λ before from bytes found. (parsed_by (entry_parser there) (moved_before before) (n + from) bytes).fault ≡ option_map (moved n) found.fault)
        (λ before from. refl)
        (λ before from bytes fault some is.
        let fails = fault_there from (entry_at here before bytes) fault is in
        ap (λ (found : Parsed EntryText). found.fault) (fault_here (entry_parser there) (moved_before before) (n + from) bytes (fault_at fault.kind (n + from)) some
        (ap (at_place (n + from)) (entry_moves before bytes ∙ ap moved_result fails.0)))
        ∙ ap (λ (p : ℕ). Some (fault_at fault.kind (n + p))) (sym fails.1))
        (λ before from bytes e later some is others.
        let w = entry_width e in
        let further : n + from + w ≡ n + (from + w) = omega arith in
        ap (λ (found : Parsed EntryText). found.fault) (unit_here (entry_parser there) (moved_before before) (n + from) bytes (moved_entry e) some
        (ap (at_place (n + from)) (entry_moves before bytes ∙ ap moved_result (found_there from (entry_at here before bytes) e is))) (omega arith))
        ∙ ap (λ (p : ℕ). (parsed_by (entry_parser there) (Some (n + e.owner)) p (drop w bytes)).fault) further ∙ others)

pub content_moves : (n place : ℕ) (f : FrameText) → content_fault (placed_at (n + place) f) ≡ option_map (moved n) (content_fault (placed_at place f))
content_moves n place f =
    let further : attachments_place f (n + place) ≡ n + attachments_place f place = omega arith in
    ap₂ option_or (ap (λ (found : Parsed RecordText). found.fault) (records_move n place f))
    (ap (λ (p : ℕ). (parsed_by (entry_parser (placed_at (n + place) f)) None p f.attachments).fault) further ∙ entries_move n place f None (attachments_place f place) f.attachments)
    ∙ either_moved n (records_of (placed_at place f)).fault (entries_of (placed_at place f)).fault

-- ---- frames up to the first with a fault of its content

-- the frame and what comes after it, or the fault of its content
abbrev pub unless_bad : Option Fault → PlacedFrame → Parsed FrameText → Parsed FrameText
unless_bad None frame later = with_unit frame later
unless_bad (Some fault) frame later = at_fault fault

-- these frames up to the first with a fault of its content; if there is none, all of them, and this fault
abbrev pub judged_frames : List PlacedFrame → Option Fault → Parsed FrameText
judged_frames [] fault = record { units = []; fault = fault }
judged_frames (frame ∷ frames) fault = unless_bad (content_fault frame) frame (judged_frames frames fault)

abbrev pub judged : Parsed FrameText → Parsed FrameText
judged found = judged_frames found.units found.fault

-- frames are read with their content as they are cut by their headers, and then judged
pub whole_judged : (before : Before) (place : ℕ) (bytes : List ℕ) → parsed_by whole_parser before place bytes ≡ judged (parsed_by frame_parser before place bytes)
whole_judged = by_units frame_parser frame_widths (λ before place bytes found. parsed_by whole_parser before place bytes ≡ judged found)
    (λ before place. refl)
    (λ before place bytes fault some is. fault_here whole_parser before place bytes fault some (ap (with_content place) is))
    (λ before place bytes frame later some is others.
    let first = λ (content : Option Fault) (same : content_fault (placed_at place frame) ≡ content). ap (with_content place) is ∙ ap (λ (c : Option Fault). unless c frame) same in
    elim (content_fault (placed_at place frame)) as (λ c. content_fault (placed_at place frame) ≡ c
    → parsed_by whole_parser before place bytes ≡ unless_bad c (placed_at place frame) (judged later)) [
      | None ↦ λ same. unit_here whole_parser before place bytes frame some (first None same) (frame_widths.some frame) ∙ ap (with_unit (placed_at place frame)) others
      | Some fault ↦ λ same. fault_here whole_parser before place bytes fault some (first (Some fault) same)
    ] refl)

all_good : (frames : List PlacedFrame) (fault : Option Fault) → first_content_fault frames ≡ None → judged_frames frames fault ≡ record { units = frames; fault = fault }
all_good [] fault good = refl
all_good (frame ∷ frames) fault good =
    elim (content_fault frame) as (λ c. option_or c (first_content_fault frames) ≡ None
    → unless_bad c frame (judged_frames frames fault) ≡ record { units = frame ∷ frames; fault = fault }) [
      | None ↦ λ others. ap (with_unit frame) (all_good frames fault others)
      | Some bad ↦ λ others. absurd (cc)
    ] good

one_bad : (frames : List PlacedFrame) (fault : Option Fault) (bad : Fault) → first_content_fault frames ≡ Some bad → (judged_frames frames fault).fault ≡ Some bad
one_bad [] fault bad is = absurd (cc)
one_bad (frame ∷ frames) fault bad is =
    elim (content_fault frame) as (λ c. option_or c (first_content_fault frames) ≡ Some bad → (unless_bad c frame (judged_frames frames fault)).fault ≡ Some bad) [
      | None ↦ λ others. one_bad frames fault bad others
      | Some other ↦ λ same. same
    ] is

module _ (before : Before) (place : ℕ) (bytes : List ℕ) where
  abbrev frames : Parsed FrameText
  frames = parsed_by frame_parser before place bytes

  -- if no frame has a fault of its content, the frames are those that the headers cut
  pub whole_good : first_content_fault frames.units ≡ None → parsed_by whole_parser before place bytes ≡ frames
  whole_good good = whole_judged before place bytes ∙ all_good frames.units frames.fault good

  -- otherwise the first such fault is the first fault
  pub whole_bad : (fault : Fault) → first_content_fault frames.units ≡ Some fault → (parsed_by whole_parser before place bytes).fault ≡ Some fault
  whole_bad fault is = ap (λ (found : Parsed FrameText). found.fault) (whole_judged before place bytes) ∙ one_bad frames.units frames.fault fault is

-- ---- parts

-- content that is good at a place is good at every place
pub good_anywhere : (place other : ℕ) (f : FrameText) → content_fault (placed_at place f) ≡ None → content_fault (placed_at other f) ≡ None
good_anywhere place other f good =
    let at : (p : ℕ) → content_fault (placed_at p f) ≡ option_map (moved p) (content_fault (placed_at 0 f)) =
    λ p. ap (λ (q : ℕ). content_fault (placed_at q f)) (let e : p ≡ p + 0 = omega arith in e) ∙ content_moves p 0 f in
    at other ∙ ap (option_map (moved other)) (map_none (moved place) (content_fault (placed_at 0 f)) (sym (at place) ∙ good))

first_good : (place : ℕ) (found : Result FrameText Fault) (frame : FrameText) → with_content place found ≡ Ok frame
    → (found ≡ Ok frame) × (content_fault (placed_at place frame) ≡ None)
first_good place (Err fault) frame is = absurd (cc)
first_good place (Ok other) frame is =
    elim (content_fault (placed_at place other)) as (λ c. content_fault (placed_at place other) ≡ c → unless c other ≡ Ok frame
    → ◌≡◌ {A = Result FrameText Fault} (Ok other) (Ok frame) × (content_fault (placed_at place frame) ≡ None)) [
      | None ↦ λ good. λ same. (same, let e : other ≡ frame = cc in subst (λ (x : FrameText). content_fault (placed_at place x) ≡ None) e good)
      | Some fault ↦ λ bad. λ same. absurd (cc)
    ] refl is

-- a frame that is good with its content is so at every place, in every version that takes its own, and before more bytes
pub whole_wide : IsWide whole_parser
whole_wide = record {
  widths = record {
    some = frame_widths.some;
    fits = λ before place bytes frame is. frame_widths.fits before place bytes frame (first_good place (at_place place (frame_at before bytes)) frame is).0;
  };
  after = λ before frame. refl;
  stays = λ version before place other bytes more frame takes is.
      let both = first_good place (at_place place (frame_at before bytes)) frame is in
      ap (λ (found : Result FrameText FaultKind). with_content other (at_place other found))
      (frame_stays version before bytes more frame takes (found_there place (frame_at before bytes) frame both.0))
      ∙ ap (λ (c : Option Fault). unless c frame) (good_anywhere place other frame both.1);
}
