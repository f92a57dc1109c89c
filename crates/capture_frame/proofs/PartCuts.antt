-- The frames of several parts, one part after another.
use Rattle.std.proofs.Common.{◌≡◌, ℕ, suc, ◌+◌, ◌-◌, ◌<◌, ◌≤◌, List, [], ◌∷◌, ◌++◌, length, drop, map, sum_by, Bor, Option, Some, None, option_map, get_or, refl, sym, ap, ap₂, ◌∙◌, append_assoc, arith}
use Rattle.std.proofs.lemmas.List.{at_drop_more}
use Rattle.std.proofs.lemmas.List.Sums.{sum_by-append, sum_by-cons}
use Rattle.capture_frame.specs.declared.fault.Fault.{Fault}
use Rattle.capture_frame.specs.declared.fault.PartFault.{PartFault}
use Rattle.capture_frame.specs.declared.frame_list.PartBytes.{PartBytes}
use Rattle.capture_frame.specs.Units.{placed, units_of}
use Rattle.capture_frame.specs.Envelope.{PlacedFrame, FrameText, frame_width}
use Rattle.capture_frame.specs.Cut.{AreAdded, CutsTo, IsPushed, IsPushedBefore, cut_of, cut_of_part, kept}
use Rattle.capture_frame.specs.FrameList.{AreKept, bodies, frames_at}
use Rattle.capture_frame.specs.Frames.{frame_parser}
use Rattle.capture_frame.specs.Parts.{ParsedParts, one_part_on, part_and_later, parts_read, joined_frames, last_of}
use Rattle.capture_frame.proofs.CutLaws.{part_filled}
use Rattle.capture_frame.proofs.ReadOnLaws.{placed-append}

abbrev pub texts_of : List (Bor (List ℕ)) → List (List ℕ)
texts_of parts = map (λ part. part.now) parts

-- a fault with so many more parts before it
abbrev pub parts_on : ℕ → Option PartFault → Option PartFault
parts_on n found = option_map (λ f. record { part = n + f.part; fault = f.fault }) found

one_on : (n : ℕ) (found : Option PartFault) → parts_on n (option_map one_part_on found) ≡ parts_on (n + 1) found
one_on n None = refl
one_on n (Some f) = ap (λ (k : ℕ). Some (record { part = k; fault = f.fault })) (let e : n + suc f.part ≡ n + 1 + f.part = omega arith in e)

-- what parts come to, where the first `n` are these frames and have no fault
abbrev pub after_parts : ℕ → List FrameText → ParsedParts → ParsedParts
after_parts n done later = record { frames = done ++ later.frames; fault = parts_on n later.fault }

-- the frames of the first i parts, and what is left of the parts
pub record HasCutParts (parts : List (Bor (List ℕ))) (i base : ℕ) (before : Option ℕ) (row : List PartBytes) (places : List ℕ) : Type 0 where
  pub done : List FrameText
  pub whole : cut_of (texts_of parts) ≡ after_parts i done (parts_read frame_parser before (texts_of (drop i parts)))
  pub are_kept : AreKept row places
  pub in_order : frames_at (bodies row) places ≡ joined_frames done
  pub base_is : base ≡ length (bodies row)
  pub filled : base ≡ sum_by frame_width done
  pub within : base + sum_by length (texts_of (drop i parts)) ≤ sum_by length (texts_of parts)

module _ (parts : List (Bor (List ℕ))) (i base : ℕ) (before : Option ℕ) (row new_row : List PartBytes) (places new_places : List ℕ)
    (d : Bor (List ℕ)) (within : i < length parts) (has : HasCutParts parts i base before row places) where
  abbrev part : List ℕ
  part = (get_or parts i d).now

  abbrev others : List (List ℕ)
  others = texts_of (drop (i + 1) parts)

  abbrev units : List FrameText
  units = units_of (cut_of_part before part).units

  left_is : texts_of (drop i parts) ≡ part ∷ others
  left_is = at_drop_more texts_of parts i d within

  left_long : sum_by length (texts_of (drop i parts)) ≡ length part + sum_by length others
  left_long = ap (sum_by length) left_is ∙ sum_by-cons length part others

  -- the next part fits after them
  pub next_fits : (most : ℕ) → sum_by length (texts_of parts) < most → base + length part < most
  next_fits most fits = let so_far = has.within in omega (arith, left_long)

  -- the part's frames come next, whether it has a fault or not
  whole_next : (fault : Option Fault) → (cut_of_part before part).fault ≡ fault
      → cut_of (texts_of parts) ≡ after_parts i has.done (part_and_later units fault (parts_read frame_parser (last_of before units) others))
  whole_next fault is =
      has.whole ∙ ap (λ (ps : List (List ℕ)). after_parts i has.done (parts_read frame_parser before ps)) left_is
      ∙ ap (λ (f : Option Fault). after_parts i has.done (part_and_later units f (parts_read frame_parser (last_of before units) others))) is

  in_order_next : AreAdded (kept row places) (kept new_row new_places) units → frames_at (bodies new_row) new_places ≡ joined_frames (has.done ++ units)
  in_order_next are =
      are.added
      ∙ ap₂ (λ (x y : List PlacedFrame). x ++ y) has.in_order (ap (λ (n : ℕ). placed frame_width (16 + n) units) (sym has.base_is ∙ has.filled))
      ∙ sym (placed-append frame_width 16 has.done units)

  pub cut_one_more : (last : Option ℕ) → IsPushed part before last (kept row places) (kept new_row new_places)
      → (16 ≤ length part) × HasCutParts parts (i + 1) (base + (length part - 16)) last new_row new_places
  cut_one_more last pushed =
      let long = part_filled before part pushed.good in
      let later = parts_read frame_parser (last_of before units) others in
      let so_far = has.within in
      let base_is = has.base_is in
      let filled = has.filled in
      let longer = pushed.longer in (
        long.0,
        record {
          done = has.done ++ units;
          whole = whole_next None pushed.good
              ∙ ap₂ (λ (fs : List FrameText) (f : Option PartFault). record { frames = fs; fault = f }) (sym (append_assoc has.done units later.frames)) (one_on i later.fault)
              ∙ ap (λ (l : Option ℕ). after_parts (i + 1) (has.done ++ units) (parts_read frame_parser l others)) (sym pushed.last_is);
          are_kept = pushed.are_added.are_kept;
          in_order = in_order_next pushed.are_added;
          base_is = omega arith;
          filled = omega (arith, long.1, sum_by-append frame_width has.done units);
          within = omega (arith, left_long, long.0);
        },
      )

  pub cut_stops : (fault : Fault) (number : ℕ) → IsPushedBefore part before (kept row places) (kept new_row new_places) fault → number ≡ i
      → CutsTo (texts_of parts) (frames_at (bodies new_row) new_places) (Some (record { part = number + 1; fault = fault }))
  cut_stops fault number stopped is =
      let whole = whole_next (Some fault) stopped.first in (
        in_order_next stopped.are_added ∙ ap (λ (p : ParsedParts). joined_frames p.frames) (sym whole),
        ap (λ (n : ℕ). Some (record { part = n + 1; fault = fault })) is ∙ ap (λ (p : ParsedParts). p.fault) (sym whole),
      )

-- ---- one part alone

first_of_one : (frames : List FrameText) (fault : Option Fault) (found : PartFault)
    → Some found ≡ (part_and_later frames fault (record { frames = []; fault = None })).fault → Some found ≡ Some (record { part = 1; fault = found.fault })
first_of_one frames None found is = let no : ⊥ = cc in absurd no
first_of_one frames (Some fault) found is =
    let same : found ≡ record { part = 1; fault = fault } = cc in
    ap (λ (f : PartFault). Some (record { part = f.part; fault = found.fault })) same

-- the fault of a capture that is read as one part is in the first part
pub one_part_fault : (capture : List ℕ) (frames : List PlacedFrame) (found : PartFault) → CutsTo (capture ∷ []) frames (Some found)
    → CutsTo (capture ∷ []) frames (Some (record { part = 1; fault = found.fault }))
one_part_fault capture frames found cuts =
    let first = cut_of_part None capture in
    (cuts.0, sym (first_of_one (units_of first.units) first.fault found cuts.1) ∙ cuts.1)
