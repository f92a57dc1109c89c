-- The frames that a reader of one more part has given so far, and those that are ahead of it.
use Rattle.std.proofs.Common.{◌≡◌, ℕ, ◌+◌, ◌-◌, ◌^◌, ◌<◌, ◌≤◌, List, [], ◌∷◌, ◌++◌, length, drop, All, sum_by, Option, Some, None, option_map, Result, Ok, Err, refl, sym, ap, ap₂, subst, subst₂, ◌∙◌, append_assoc, append-nil, length-append, length-drop, arith}
use Rattle.capture_frame.specs.declared.fault.Fault.{Fault}
use Rattle.capture_frame.specs.declared.frame.Frame.{Frame}
use Rattle.capture_frame.specs.declared.frame_list.PartBytes.{PartBytes}
use Rattle.capture_frame.specs.declared.version.Version.{Version}
use Rattle.capture_frame.specs.Envelope.{PlacedFrame, FrameText, frame_width, in_version}
use Rattle.capture_frame.specs.Cut.{AreAdded, IsPushed, IsPushedBefore, cut_of_part, kept}
use Rattle.capture_frame.specs.FrameList.{AreKept, bodies}
use Rattle.capture_frame.specs.Frames.{frame_at, frame_parser}
use Rattle.capture_frame.specs.Parts.{frames_if, header_at, last_of}
use Rattle.capture_frame.specs.ReadOn.{Parsed}
use Rattle.capture_frame.specs.State.{Steps, frames_after}
use Rattle.capture_frame.specs.Tests.{fault_at}
use Rattle.capture_frame.specs.Units.{placed, units_of}
use Rattle.capture_frame.proofs.FrameLaws.{frame_widths, frames_fill, frames_placed}
use Rattle.capture_frame.proofs.FrameListLaws.{added, bodies-push, starts_of}
use Rattle.capture_frame.proofs.HeaderLaws.{header_long}
use Rattle.capture_frame.proofs.ReadOnLaws.{IsThere, all_moved, at_place-moves, map_none, moved, moves, units_moved, units_there}

-- ---- a part

-- a part without a fault has a good file header, and its frames fill the rest of it
filled : (before : Option ℕ) (part : List ℕ) (judged : Result Version Fault) → header_at part ≡ judged → (frames_if frame_parser before part judged).fault ≡ None
    → (16 ≤ length part) × (sum_by frame_width (units_of (frames_if frame_parser before part judged).units) ≡ length part - 16)
filled before part (Ok version) is good =
    (header_long part version is, frames_fill (in_version version before) 16 (drop 16 part) good ∙ length-drop 16 part)
filled before part (Err fault) is good = let no : ⊥ = cc in absurd no

pub part_filled : (before : Option ℕ) (part : List ℕ) → (cut_of_part before part).fault ≡ None
    → (16 ≤ length part) × (sum_by frame_width (units_of (cut_of_part before part).units) ≡ length part - 16)
part_filled before part good = filled before part (header_at part) refl good

-- ---- a reader of a part

-- where the reader is: with what is ahead of it, the places so far and the last sequence so far come to those of the
-- whole part
pub record HasPushed (part : List ℕ) (base : ℕ) (before last : Option ℕ) (ahead : Parsed FrameText) (old new : List ℕ) : Type 0 where
  pub version : Version
  pub header : header_at part ≡ Ok version
  pub fault_is : ahead.fault ≡ (frames_after version part base before).fault
  pub added : new ++ starts_of ahead.units ≡ old ++ starts_of (frames_after version part base before).units
  pub last_is : last_of last (units_of ahead.units) ≡ last_of before (units_of (frames_after version part base before).units)

-- one frame more
pub pushed_next : (part : List ℕ) (base : ℕ) (before last : Option ℕ) (reader new : Parsed FrameText) (old places : List ℕ) (found : Frame)
    → HasPushed part base before last reader old places → Steps reader (Ok (Some found)) new
    → HasPushed part base before (Some found.sequence) new old (places ++ found.place ∷ [])
pushed_next part base before last reader new old places found has (unit, view, is) = record {
  version = has.version;
  header = has.header;
  fault_is = ap (λ (p : Parsed FrameText). p.fault) (sym is) ∙ has.fault_is;
  added = append_assoc places (found.place ∷ []) (starts_of new.units)
      ∙ ap (λ (f : PlacedFrame). places ++ f.place ∷ starts_of new.units) view
      ∙ ap (λ (p : Parsed FrameText). places ++ starts_of p.units) (sym is) ∙ has.added;
  last_is = ap (λ (f : PlacedFrame). last_of (Some f.unit.sequence) (units_of new.units)) view
      ∙ ap (λ (p : Parsed FrameText). last_of last (units_of p.units)) (sym is) ∙ has.last_is;
}

-- ---- at the end of a part

some_moved : (n : ℕ) (found : Option Fault) (fault : Fault) → Some fault ≡ option_map (moved n) found
    → (n ≤ fault.place) × (found ≡ Some (fault_at fault.kind (fault.place - n)))
some_moved n None fault is = let no : ⊥ = cc in absurd no
some_moved n (Some there) fault is =
    let same : fault ≡ moved n there = cc in
    let place = ap (λ (f : Fault). f.place) same in
    (omega arith, ap₂ (λ k p. Some (fault_at k p)) (sym (ap (λ (f : Fault). f.kind) same)) (omega arith))

module _ (part : List ℕ) (base : ℕ) (before last : Option ℕ) (reader : Parsed FrameText) (old places : List ℕ)
    (has : HasPushed part base before last reader old places) where
  abbrev all : Parsed FrameText
  all = frames_after has.version part base before

  abbrev cut : Parsed FrameText
  cut = cut_of_part before part

  moved_is : all ≡ all_moved base cut
  moved_is =
      moves frame_parser frame_widths base (λ state place bytes. at_place-moves base place (frame_at state bytes)) (in_version has.version before) 16 (drop 16 part)
      ∙ ap (λ (judged : Result Version Fault). all_moved base (frames_if frame_parser before part judged)) (sym has.header)

  same_units : units_of all.units ≡ units_of cut.units
  same_units = ap (λ (p : Parsed FrameText). units_of p.units) moved_is ∙ units_moved base cut.units

  fault_moved : reader.fault ≡ option_map (moved base) cut.fault
  fault_moved = has.fault_is ∙ ap (λ (p : Parsed FrameText). p.fault) moved_is

  -- a fault that the reader meets is that of the part, `base` bytes further
  pub fault_here : (fault : Fault) → reader.fault ≡ Some fault → (base ≤ fault.place) × (cut.fault ≡ Some (fault_at fault.kind (fault.place - base)))
  fault_here fault is = some_moved base cut.fault fault (sym is ∙ fault_moved)

-- the frames of a part are added, when none is ahead of the reader
module _ (part : List ℕ) (base : ℕ) (before last : Option ℕ) (reader : Parsed FrameText) (row new_row : List PartBytes) (body : PartBytes)
    (old places : List ℕ) (has : HasPushed part base before last reader old places) (are : AreKept row old)
    (row_is : new_row ≡ row ++ body ∷ []) (start : body.start ≡ base + 16) (body_is : body.bytes.now ≡ drop 16 part)
    (base_is : base ≡ length (bodies row)) (fits : base + length part < 2 ^ 64) (none : reader.units ≡ []) where
  are_added : AreAdded (kept row old) (kept new_row places) (units_of (cut_of_part before part).units)
  are_added =
      let all = frames_after has.version part base before in
      let at : base + 16 ≡ body.start = sym start in
      let long = header_long part has.version has.header in
      let wide = ap length body_is ∙ length-drop 16 part in
      let there = subst₂ (λ (p : ℕ) (t : List ℕ). All (IsThere frame_parser p t) all.units) at (sym body_is)
      (units_there frame_parser frame_widths (in_version has.version before) (base + 16) (drop 16 part)) in
      let placed_is = frames_placed (in_version has.version before) (base + 16) (drop 16 part)
      ∙ ap (λ (p : ℕ). placed frame_width p (units_of all.units)) at in
      let places_are : old ++ starts_of all.units ≡ places =
      sym has.added ∙ ap (λ (us : List PlacedFrame). places ++ starts_of us) none ∙ append-nil places in
      subst (AreAdded (kept row old) (kept new_row places)) (same_units part base before last reader old places has)
      (subst₂ (λ (r : List PartBytes) (ps : List ℕ). AreAdded (kept row old) (kept r ps) (units_of all.units)) (sym row_is) places_are
      (added row old body all.units are (omega arith) (omega arith) there placed_is))

  pub longer : length (bodies new_row) ≡ length (bodies row) + (length part - 16)
  longer =
      ap (λ (r : List PartBytes). length (bodies r)) row_is ∙ ap length (bodies-push row body) ∙ length-append (bodies row) body.bytes.now
      ∙ ap (λ (n : ℕ). length (bodies row) + n) (ap length body_is ∙ length-drop 16 part)

  pub pushed_end : reader.fault ≡ None → IsPushed part before last (kept row old) (kept new_row places)
  pushed_end good = record {
    good = map_none (moved base) (cut_of_part before part).fault (sym (fault_moved part base before last reader old places has) ∙ good);
    are_added = are_added;
    longer = longer;
    last_is = ap (λ (us : List PlacedFrame). last_of last (units_of us)) (sym none) ∙ has.last_is
        ∙ ap (last_of before) (same_units part base before last reader old places has);
  }

  pub pushed_fails : (fault : Fault) → reader.fault ≡ Some fault
      → IsPushedBefore part before (kept row old) (kept new_row places) (fault_at fault.kind (fault.place - base))
  pushed_fails fault is = record { first = (fault_here part base before last reader old places has fault is).1; are_added = are_added }
