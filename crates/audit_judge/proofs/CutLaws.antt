-- Frames that parts are cut into: judged with their content, they are the frames of the parts, or the first that has a
-- fault has the first fault of the parts.
use Rattle.std.proofs.Common.{◌≡◌, inl, inr, ℕ, ◌+◌, ◌-◌, ◌<◌, ◌≤◌, ◌^◌, List, [], ◌∷◌, ◌++◌, length, drop, Option, Some, None, Result, Ok, Err, refl, sym, ap, ap₂, subst, ◌∙◌, length-drop, arith}
use Rattle.std.specs.Prelude.{IfSome}
use Rattle.std.specs.List.{sum_by}
use Rattle.std.specs.Option.{option_map, option_or}
use Rattle.std.proofs.lemmas.List.Elements.{All-weaker}
use Rattle.std.proofs.lemmas.List.Sums.{sum_by-append, sum_by-cons}
use Rattle.capture_frame.specs.declared.fault.Fault.{Fault}
use Rattle.capture_frame.specs.declared.fault.PartFault.{PartFault}
use Rattle.capture_frame.specs.declared.version.Version.{Version}
use Rattle.capture_frame.specs.Cut.{CutsTo, cut_of}
use Rattle.capture_frame.specs.Envelope.{FrameText, PlacedFrame, in_version, frame_width}
use Rattle.capture_frame.specs.Frames.{frame_parser}
use Rattle.capture_frame.specs.Lookup.{span_of, Holds}
use Rattle.capture_frame.specs.Parts.{ParsedParts, joined_frames, parts_read, part_and_later, frames_of_part, frames_if, header_at, last_of, one_part_on}
use Rattle.capture_frame.specs.ReadOn.{Parsed}
use Rattle.capture_frame.specs.Tests.{fault_at}
use Rattle.capture_frame.specs.Units.{placed, placed_at, units_of}
use Rattle.transaction_view.specs.Grammar.{content_fault, first_content_fault, frames_of_parts, unless, whole_parser, wholes_of}
use Rattle.audit_judge.specs.Jobs.{AreSound, AreCut, EndsNear}
use Rattle.audit_judge.specs.Parts.{after_part, in_part, IsInPart}
use Rattle.audit_judge.proofs.FaultLaws.{first_append, first_by, first_none, none_of}
use Rattle.audit_judge.proofs.PlaceLaws.{in_this, in_later}
use Rattle.transaction_view.proofs.WholeLaws.{content_moves, either_moved, whole_good, whole_bad}
use Rattle.capture_frame.proofs.FrameLaws.{frames_placed, frames_fit, frames_fill}
use Rattle.capture_frame.proofs.HeaderLaws.{header_long}
use Rattle.capture_frame.proofs.ReadOnLaws.{IsBetween, map_none, moved, placed-append, placed_apart, placed_within}

-- ---- frames one after another

abbrev pub in_row : ℕ → List FrameText → List PlacedFrame
in_row place texts = placed frame_width place texts

row_sum : (place : ℕ) (texts : List FrameText) → sum_by span_of (in_row place texts) ≡ sum_by frame_width texts
row_sum place [] = refl
row_sum place (t ∷ texts) =
    let later = row_sum (place + frame_width t) texts in
    let one = sum_by-cons span_of (placed_at place t) (in_row (place + frame_width t) texts) in
    let other = sum_by-cons frame_width t texts in
    omega (arith, later, one, other)

-- ---- the first fault of the content of frames

-- frames that are n bytes further have their first fault n bytes further
first_moves : (n place : ℕ) (texts : List FrameText)
    → first_content_fault (in_row (n + place) texts) ≡ option_map (moved n) (first_content_fault (in_row place texts))
first_moves n place [] = refl
first_moves n place (t ∷ texts) =
    ap₂ option_or (content_moves n place t)
    (ap (λ (p : ℕ). first_content_fault (in_row p texts)) (omega arith) ∙ first_moves n (place + frame_width t) texts)
    ∙ either_moved n (content_fault (placed_at place t)) (first_content_fault (in_row (place + frame_width t) texts))

-- the first fault is in the bytes of the frames
first_held : (place : ℕ) (texts : List FrameText) (fault : Fault) → first_content_fault (in_row place texts) ≡ Some fault
    → (place ≤ fault.place) × (fault.place < place + sum_by frame_width texts)
first_held place texts fault is =
    let Within : ℕ → Type 0 = λ x. (place ≤ x) × (x < place + sum_by frame_width texts) in
    subst (λ (o : Option Fault). IfSome (option_map (λ (found : Fault). found.place) o) Within) is
    (first_by Within (in_row place texts)
    (All-weaker (IsBetween frame_width place (place + sum_by frame_width texts)) (λ (f : PlacedFrame). (x : ℕ) → Holds x f → Within x)
    (λ f between x held.
    let from = between.0 in
    let to = between.1 in
    let least = held.0 in
    let most = held.1 in
    (omega (arith, from, least), omega (arith, to, most)))
    (in_row place texts) (placed_within frame_width place texts)))

-- ---- one part

-- what the frames of a part come to, by their headers alone and with their content
record ArePartsOf (part : List ℕ) (cut whole : Parsed FrameText) : Type 0 where
  pub row : cut.units ≡ in_row 16 (units_of cut.units)
  pub fits : sum_by frame_width (units_of cut.units) ≤ length part - 16
  pub all : cut.fault ≡ None → 16 + sum_by frame_width (units_of cut.units) ≡ length part
  pub good : first_content_fault cut.units ≡ None → whole ≡ cut
  pub bad : (fault : Fault) → first_content_fault cut.units ≡ Some fault → whole.fault ≡ Some fault

-- the cut frames of a part, and the frames judged with their content
abbrev cut_of_part : Option ℕ → List ℕ → Parsed FrameText
cut_of_part last part = frames_of_part frame_parser last part

abbrev whole_of_part : Option ℕ → List ℕ → Parsed FrameText
whole_of_part last part = frames_of_part whole_parser last part

part_by : (last : Option ℕ) (part : List ℕ) (header : Result Version Fault) → header_at part ≡ header
    → ArePartsOf part (frames_if frame_parser last part header) (frames_if whole_parser last part header)
part_by last part (Err fault) is = record {
  row = refl;
  fits = omega arith;
  all = λ none. let wrong : Some fault ≡ None = none in absurd (cc);
  good = λ none. refl;
  bad = λ found here. let wrong : None ≡ Some found = here in absurd (cc);
}
part_by last part (Ok version) is =
    let before = in_version version last in
    let bytes = drop 16 part in
    let long = header_long part version is in
    let rest = length-drop 16 part in
    let fits = frames_fit before 16 bytes in
    record {
      row = frames_placed before 16 bytes;
      fits = omega (arith, fits, rest);
      all = λ none. let fill = frames_fill before 16 bytes none in omega (arith, fill, rest, long);
      good = whole_good before 16 bytes;
      bad = whole_bad before 16 bytes;
    }

part_is : (last : Option ℕ) (part : List ℕ) → ArePartsOf part (cut_of_part last part) (whole_of_part last part)
part_is last part = part_by last part (header_at part) refl

-- ---- all parts

map_some : {A B : Type 0} (f : A → B) (a : Option A) (y : B) → option_map f a ≡ Some y → (x : A) × (a ≡ Some x) × (y ≡ f x)
map_some f None y is = absurd (cc)
map_some f (Some x) y is = let same : Some (f x) ≡ Some y = is in (x, refl, cc)

-- `base` bytes of the joined capture come before these parts, without the file header
record AreJudged (base : ℕ) (parts : List (List ℕ)) (cut whole : ParsedParts) : Type 0 where
  pub fits : sum_by frame_width cut.frames ≤ sum_by length parts
  pub good : first_content_fault (in_row (base + 16) cut.frames) ≡ None → whole ≡ cut
  pub bad : (fault : Fault) → first_content_fault (in_row (base + 16) cut.frames) ≡ Some fault
      → (whole.fault ≡ Some (in_part parts (fault_at fault.kind (fault.place - base)))) × IsInPart parts (fault.place - base)

-- the first fault of the frames of a part, which begin after `base` bytes
first_here : (base : ℕ) (part : List ℕ) (cut whole : Parsed FrameText) → ArePartsOf part cut whole
    → first_content_fault (in_row (base + 16) (units_of cut.units)) ≡ option_map (moved base) (first_content_fault cut.units)
first_here base part cut whole are =
    first_moves base 16 (units_of cut.units) ∙ ap (λ (fs : List PlacedFrame). option_map (moved base) (first_content_fault fs)) (sym are.row)

-- such a fault is in the part
bad_here : (base : ℕ) (part : List ℕ) (parts : List (List ℕ)) (cut whole : Parsed FrameText) (later : ParsedParts) → ArePartsOf part cut whole → (fault : Fault)
    → option_map (moved base) (first_content_fault cut.units) ≡ Some fault
    → ((part_and_later (units_of whole.units) whole.fault later).fault ≡ Some (in_part (part ∷ parts) (fault_at fault.kind (fault.place - base))))
    × IsInPart (part ∷ parts) (fault.place - base)
bad_here base part parts cut whole later are fault is =
    let found = map_some (moved base) (first_content_fault cut.units) fault is in
    let g = found.0 in
    let bad = are.bad g found.1 in
    let held = first_held 16 (units_of cut.units) g (ap first_content_fault (sym are.row) ∙ found.1) in
    let most = held.1 in
    let fits = are.fits in
    let at : fault.place ≡ base + g.place = ap (λ (f : Fault). f.place) found.2 in
    let kind : fault.kind ≡ g.kind = ap (λ (f : Fault). f.kind) found.2 in
    let place : fault.place - base ≡ g.place = omega (arith, at) in
    let same : fault_at fault.kind (fault.place - base) ≡ g = ap₂ fault_at kind place in
    let inside : g.place < length part = omega (arith, most, fits) in (
      ap (λ (f : Option Fault). (part_and_later (units_of whole.units) f later).fault) bad
          ∙ sym (ap Some (ap (in_part (part ∷ parts)) same ∙ in_this part parts g inside)),
      inl (omega (arith, place, inside)),
    )

bad_later : (base : ℕ) (part : List ℕ) (parts : List (List ℕ)) (cut whole : Parsed FrameText) (later : ParsedParts)
    (others_of : Parsed FrameText → ParsedParts) → ArePartsOf part cut whole → cut.fault ≡ None
    → AreJudged (base + (length part - 16)) parts later (others_of cut)
    → (found : Fault) (here : Option Fault) → first_content_fault cut.units ≡ here
    → option_or (option_map (moved base) here) (first_content_fault (in_row ((base + (length part - 16)) + 16) later.frames)) ≡ Some found
    → ((part_and_later (units_of whole.units) whole.fault (others_of whole)).fault ≡ Some (in_part (part ∷ parts) (fault_at found.kind (found.place - base))))
    × IsInPart (part ∷ parts) (found.place - base)
bad_later base part parts cut whole later others_of are is others found (Some g) here there =
    bad_here base part parts cut whole (others_of whole) are found (ap (option_map (moved base)) here ∙ there)
bad_later base part parts cut whole later others_of are is others found None here there =
    let same = are.good here in
    let bad = others.bad found there in
    let held = first_held ((base + (length part - 16)) + 16) later.frames found there in
    let least = held.0 in
    let all = are.all is in
    let place : after_part part (found.place - base) ≡ found.place - (base + (length part - 16)) = omega (arith, all, least) in (
      ap (λ (p : Parsed FrameText). (part_and_later (units_of p.units) p.fault (others_of p)).fault) same
          ∙ ap (λ (f : Option Fault). (part_and_later (units_of cut.units) f (others_of cut)).fault) is
          ∙ ap (option_map one_part_on) (bad.0 ∙ ap (λ (n : ℕ). Some (in_part parts (fault_at found.kind n))) (sym place))
          ∙ sym (ap Some (in_later part parts (fault_at found.kind (found.place - base)) (omega (arith, all, least)))),
      inr (subst (IsInPart parts) (sym place) bad.1),
    )

part_judged : (base : ℕ) (part : List ℕ) (parts : List (List ℕ)) (cut whole : Parsed FrameText) (fault : Option Fault) (later : ParsedParts)
    (others_of : Parsed FrameText → ParsedParts) → ArePartsOf part cut whole → cut.fault ≡ fault
    → AreJudged (base + (length part - 16)) parts later (others_of cut)
    → AreJudged base (part ∷ parts) (part_and_later (units_of cut.units) fault later)
    (part_and_later (units_of whole.units) whole.fault (others_of whole))
part_judged base part parts cut whole (Some x) later others_of are is others =
    let sum = sum_by-cons (length {A = ℕ}) part parts in
    let fits = are.fits in
    record {
      fits = omega (arith, sum, fits);
      good = λ none.
          let same = are.good (map_none (moved base) (first_content_fault cut.units) (sym (first_here base part cut whole are) ∙ none)) in
          ap (λ (p : Parsed FrameText). part_and_later (units_of p.units) p.fault (others_of p)) same
          ∙ ap (λ (f : Option Fault). part_and_later (units_of cut.units) f (others_of cut)) is;
      bad = λ found there. bad_here base part parts cut whole (others_of whole) are found (sym (first_here base part cut whole are) ∙ there);
    }
part_judged base part parts cut whole None later others_of are is others =
    let sum = sum_by-cons (length {A = ℕ}) part parts in
    let fits = are.fits in
    let texts = units_of cut.units in
    let fits_too = others.fits in
    let long = sum_by-append frame_width texts later.frames in
    let all = are.all is in
    let split : in_row (base + 16) (texts ++ later.frames) ≡ in_row (base + 16) texts ++ in_row ((base + (length part - 16)) + 16) later.frames =
    placed-append frame_width (base + 16) texts later.frames ∙ ap (λ (n : ℕ). in_row (base + 16) texts ++ in_row n later.frames) (omega (arith, all)) in
    let first = ap first_content_fault split
    ∙ first_append (in_row (base + 16) texts) (in_row ((base + (length part - 16)) + 16) later.frames)
    ∙ ap (λ (o : Option Fault). option_or o (first_content_fault (in_row ((base + (length part - 16)) + 16) later.frames))) (first_here base part cut whole are) in
    record {
      fits = omega (arith, sum, fits, fits_too, long);
      good = λ none.
          let both = first_none (option_map (moved base) (first_content_fault cut.units))
          (first_content_fault (in_row ((base + (length part - 16)) + 16) later.frames)) (sym first ∙ none) in
          let same = are.good (map_none (moved base) (first_content_fault cut.units) both.0) in
          ap (λ (p : Parsed FrameText). part_and_later (units_of p.units) p.fault (others_of p)) same
          ∙ ap₂ (λ (f : Option Fault) (l : ParsedParts). part_and_later texts f l) is (others.good both.1);
      bad = λ found there. bad_later base part parts cut whole later others_of are is others found
          (first_content_fault cut.units) refl (sym first ∙ there);
    }

-- what parts come to, by headers alone and with content
judged_parts : (base : ℕ) (last : Option ℕ) (parts : List (List ℕ)) → AreJudged base parts (parts_read frame_parser last parts) (parts_read whole_parser last parts)
judged_parts base last [] = record {
  fits = omega arith;
  good = λ none. refl;
  bad = λ found there. let wrong : None ≡ Some found = there in absurd (cc);
}
judged_parts base last (part ∷ parts) =
    let cut = cut_of_part last part in
    let others : Parsed FrameText → ParsedParts = λ p. parts_read whole_parser (last_of last (units_of p.units)) parts in
    part_judged base part parts cut (whole_of_part last part) cut.fault (parts_read frame_parser (last_of last (units_of cut.units)) parts) others
    (part_is last part) refl (judged_parts (base + (length part - 16)) (last_of last (units_of cut.units)) parts)

-- ---- the frames that parts are cut into

pub cut_judged : (parts : List (List ℕ)) → first_content_fault (in_row 16 (cut_of parts).frames) ≡ None → wholes_of parts ≡ cut_of parts
cut_judged parts none = (judged_parts 0 None parts).good none

pub cut_faulty : (parts : List (List ℕ)) (fault : Fault) → first_content_fault (in_row 16 (cut_of parts).frames) ≡ Some fault
    → ((wholes_of parts).fault ≡ Some (in_part parts fault)) × IsInPart parts fault.place
cut_faulty parts fault bad =
    let here = (judged_parts 0 None parts).bad fault bad in
    let place : fault.place - 0 ≡ fault.place = omega arith in (
      here.0 ∙ ap (λ (n : ℕ). Some (in_part parts (fault_at fault.kind n))) place,
      subst (IsInPart parts) place here.1,
    )

pub are_cut : (parts : List (List ℕ)) → sum_by length parts ≤ 2 ^ 30 → AreCut (in_row 16 (cut_of parts).frames)
are_cut parts short =
    let texts = (cut_of parts).frames in
    let fits = (judged_parts 0 None parts).fits in
    let sum = row_sum 16 texts in
    record {
      few = omega (arith, sum, fits, short);
      apart = placed_apart frame_width 16 texts;
      near = All-weaker (IsBetween frame_width 16 (16 + sum_by frame_width texts)) EndsNear
          (λ f between. let to = between.1 in omega (arith, fits, short, to)) (in_row 16 texts) (placed_within frame_width 16 texts);
    }

-- ---- what the frames of the parts are

pub bad_read : (parts : List (List ℕ)) (found : PartFault) → (wholes_of parts).fault ≡ Some found → frames_of_parts parts ≡ Err found
bad_read parts found is = ap (λ (fault : Option PartFault). unless fault (joined_frames (wholes_of parts).frames)) is

pub good_read : (parts : List (List ℕ)) → (wholes_of parts).fault ≡ None → frames_of_parts parts ≡ Ok (joined_frames (wholes_of parts).frames)
good_read parts none = ap (λ (fault : Option PartFault). unless fault (joined_frames (wholes_of parts).frames)) none

-- frames that were cut, and how they were cut off
module _ (parts : List (List ℕ)) (frames : List PlacedFrame) (found : Option PartFault) (cut : CutsTo parts frames found) where
  pub cut_so : sum_by length parts ≤ 2 ^ 30 → AreCut frames
  cut_so short = subst AreCut (sym cut.0) (are_cut parts short)

  pub first_bad : (fault : Fault) → first_content_fault frames ≡ Some fault
      → IsInPart parts fault.place × (frames_of_parts parts ≡ Err (in_part parts fault))
  first_bad fault bad =
      let here = cut_faulty parts fault (ap first_content_fault (sym cut.0) ∙ bad) in
      (here.1, bad_read parts (in_part parts fault) here.0)

  pub all_sound : AreSound frames → frames_of_parts parts ≡ unless found frames
  all_sound sound =
      let same = cut_judged parts (ap first_content_fault (sym cut.0) ∙ none_of frames sound) in
      ap (λ (read : ParsedParts). unless read.fault (joined_frames read.frames)) same ∙ ap₂ unless (sym cut.1) (sym cut.0)
