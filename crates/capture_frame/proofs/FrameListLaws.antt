-- Frames that are kept by their places: each is read back from the bytes at its place.
use Rattle.std.proofs.Common.{◌≡◌, ℕ, zero, suc, ◌+◌, ◌-◌, ◌<◌, ◌≤◌, ◌^◌, List, [], ◌∷◌, ◌++◌, length, take, drop, sum_by, map, All, AllPairs, option_map, slice_get, slice_index_or, leb, true, false, Some, get_or, refl, sym, ap, ap₂, ◌∙◌, append_assoc, append-nil, length-append, length-drop, leb-false, leb-true, arith, inl, inr}
use Rattle.std.specs.List.Sorted.{IsPartitionedBy, IsPartitionPoint}
use Rattle.std.proofs.lemmas.Bool.{cases_order}
use Rattle.std.proofs.lemmas.List.{at_drop_more, drop-append-le, length-map, map-append, get_or_default, get_or-map, take-append-drop, take-take}
use Rattle.std.proofs.lemmas.Option.{slice_get-get_or, slice_get-map}
use Rattle.std.proofs.Math.Seq.{drop-append-add}
use Rattle.std.proofs.lemmas.List.Concat.{flat_map-cons, flat_map-append, length-flat_map}
use Rattle.std.proofs.lemmas.List.Elements.{All-append, All-head, All-map, All-tail, All-weaker, Contains-append_left, Contains-push}
use Rattle.std.proofs.lemmas.List.Sorted.{IsPartitionedBy-leb}
use Rattle.std.proofs.lemmas.List.Sums.{sum_by-cons, sum_by-take-le, sum_by_more}
use Rattle.capture_frame.specs.declared.frame.Frame.{Frame}
use Rattle.capture_frame.specs.declared.frame_list.PartBytes.{PartBytes}
use Rattle.capture_frame.specs.Units.{placed_at, placed, units_of}
use Rattle.capture_frame.specs.Envelope.{PlacedFrame, FrameText, frame_width, placed_frame}
use Rattle.capture_frame.specs.Frames.{frame_at_start, frame_parser}
use Rattle.capture_frame.specs.Lookup.{AreApart, IsSplitAt}
use Rattle.capture_frame.specs.FrameList.{bodies, frames_at, AreInRow, HasFrameAt, AreKept, AreBytesFrom}
use Rattle.capture_frame.specs.Cut.{AreAdded, kept}
use Rattle.capture_frame.proofs.FrameLaws.{frame_read, whole_read, whole_long, frame_at_start-more}
use Rattle.capture_frame.proofs.Pairs.{pairs_rise, pairs_unmap}
use Rattle.capture_frame.proofs.ReadOnLaws.{IsThere}

-- ---- parts in a row

bodies-cons : (part : PartBytes) (parts : List PartBytes) → bodies (part ∷ parts) ≡ part.bytes.now ++ bodies parts
bodies-cons part parts = flat_map-cons (λ (p : PartBytes). p.bytes.now) part parts

pub bodies-push : (parts : List PartBytes) (part : PartBytes) → bodies (parts ++ part ∷ []) ≡ bodies parts ++ part.bytes.now
bodies-push parts part =
    flat_map-append (λ (p : PartBytes). p.bytes.now) parts (part ∷ [])
    ∙ ap (λ (l : List ℕ). bodies parts ++ l) (bodies-cons part [] ∙ append-nil part.bytes.now)

pub row-push : (place : ℕ) (parts : List PartBytes) (part : PartBytes) → AreInRow place parts → part.start ≡ place + length (bodies parts)
    → AreInRow place (parts ++ part ∷ [])
row-push place [] part row is = (let start : part.start ≡ place = omega (arith, is) in start, tt)
row-push place (first ∷ parts) part row is =
    let long = ap length (bodies-cons first parts) ∙ length-append first.bytes.now (bodies parts) in
    (row.0, row-push (place + length first.bytes.now) parts part row.1 (omega (arith, is, long)))

-- how many bytes the first `n` parts have
abbrev long_before : List PartBytes → ℕ → ℕ
long_before parts n = sum_by (λ (p : PartBytes). length p.bytes.now) (take n parts)

start_is : (place : ℕ) (parts : List PartBytes) → AreInRow place parts → (i : ℕ) (d : PartBytes) → i < length parts
    → (get_or parts i d).start ≡ place + long_before parts i
start_is place [] row i d inside = absurd (omega arith)
start_is place (first ∷ parts) row zero d inside = omega (arith, row.0)
start_is place (first ∷ parts) row (suc i) d inside =
    omega (arith, start_is (place + length first.bytes.now) parts row.1 i d (omega arith), sum_by-cons (λ (p : PartBytes). length p.bytes.now) first (take i parts))

long_before-le : (parts : List PartBytes) (i j : ℕ) → i ≤ j → long_before parts i ≤ long_before parts j
long_before-le parts i j upto =
    omega (arith, sum_by-take-le (λ (p : PartBytes). length p.bytes.now) (take j parts) i, ap (sum_by (λ (p : PartBytes). length p.bytes.now)) (take-take i j parts upto))

-- ---- the part that a frame is in

-- the parts that begin at a place or before it are the first ones
begun_first : (place : ℕ) (parts : List PartBytes) (at : ℕ) → AreInRow place parts → IsPartitionedBy (λ (p : PartBytes). leb p.start at) parts
begun_first place parts at row = IsPartitionedBy-leb (λ (p : PartBytes). p.start) parts at
    (λ i j d upto within.
    omega (arith, start_is place parts row i d (omega arith), start_is place parts row j d within, long_before-le parts i j upto))

-- the number of parts that begin at a place or before it
abbrev pub IsBegunCount : List PartBytes → ℕ → ℕ → Type 0
IsBegunCount parts at n = IsPartitionPoint (λ (p : PartBytes). leb p.start at ≡ true) (λ (p : PartBytes). leb p.start at ≡ false) parts n

-- a frame begins within its part
pub within_part : (parts : List PartBytes) (at : ℕ) (has : HasFrameAt parts at) → at - has.part.start < length has.part.bytes.now
within_part parts at has =
    let long = whole_long (drop (at - has.part.start) has.part.bytes.now) has.whole in
    let left = length-drop (at - has.part.start) has.part.bytes.now in
    omega (arith, long, left)

-- the part with the frame at a single place
module _ (parts : List PartBytes) (at : ℕ) (are : AreKept parts (at ∷ [])) where
  has : HasFrameAt parts at
  has = All-head (HasFrameAt parts) at [] are.frames

  abbrev number : ℕ
  number = has.there.0

  is_part : (d : PartBytes) → slice_index_or parts number d ≡ has.part
  is_part d = sym (get_or_default parts number has.part d has.there.1) ∙ has.there.2

  -- it is a single part
  pub only_part : length parts ≡ 1 → (d : PartBytes) → (found : HasFrameAt parts at) × (found.part ≡ slice_index_or parts 0 d)
  only_part one d = let inside = has.there.1 in (has, sym (is_part d) ∙ ap (λ (k : ℕ). slice_index_or parts k d) (omega arith))

  is_last : (n : ℕ) → n ≤ length parts → IsBegunCount parts at n → n ≡ number + 1
  is_last n few count = elim (cases_order n (number + 1)) [
    | inl same ↦ same
    | inr other ↦ (
        let here = ap (λ (p : PartBytes). p.start) (is_part has.part) in
        elim other [
          | inl less ↦ (
              let late = leb-false (slice_index_or parts number has.part).start at (count.1 number has.part (omega arith) has.there.1) in
              let from = has.from in
              absurd (omega arith))
          | inr more ↦ (
              let begun = leb-true (slice_index_or parts (n - 1) has.part).start at (count.0 (n - 1) has.part (omega arith) (omega arith)) in
              let start = start_is 16 parts are.in_row number has.part has.there.1 in
              let next = start_is 16 parts are.in_row (n - 1) has.part (omega arith) in
              let wide = ap (λ (p : PartBytes). length p.bytes.now) (is_part has.part) in
              let to = sum_by_more (λ (p : PartBytes). length p.bytes.now) parts number has.part has.there.1 in
              let upto = long_before-le parts (number + 1) (n - 1) (omega arith) in
              absurd (omega (arith, within_part parts at has)))
        ])
  ]

  -- and it is the last of those that begin at the place or before it
  pub last_begun : (n : ℕ) → n ≤ length parts → (IsPartitionedBy (λ (p : PartBytes). leb p.start at) parts → IsBegunCount parts at n)
      → (0 < n) × ((d : PartBytes) → (found : HasFrameAt parts at) × (found.part ≡ slice_index_or parts (n - 1) d))
  last_begun n few count =
      let last = is_last n few (count (begun_first 16 parts at are.in_row)) in
      (omega arith, λ d. (has, sym (is_part d) ∙ ap (λ (k : ℕ). slice_index_or parts k d) (omega arith)))

-- the bytes of the capture from a frame on
pub bytes_from_place : (parts : List PartBytes) (places : List ℕ) (at : ℕ) → AreKept parts places → (has : HasFrameAt parts at)
    → AreBytesFrom parts at (drop (at - has.part.start) has.part.bytes.now)
bytes_from_place parts places at are has =
    let part = has.part in
    let i = has.there.0 in
    let bytes = drop (at - part.start) part.bytes.now in
    let front = bodies (take i parts) in
    let others = bodies (drop (i + 1) parts) in
    let whole : bodies parts ≡ front ++ (part.bytes.now ++ others) =
    ap bodies (sym (take-append-drop i parts)) ∙ flat_map-append (λ (p : PartBytes). p.bytes.now) (take i parts) (drop i parts)
    ∙ ap (λ (l : List ℕ). front ++ l)
    (at_drop_more bodies parts i part has.there.1 ∙ bodies-cons (get_or parts i part) (drop (i + 1) parts)
    ∙ ap (λ (p : PartBytes). p.bytes.now ++ others) has.there.2) in
    let start : part.start ≡ 16 + length front =
    sym (ap (λ (p : PartBytes). p.start) has.there.2) ∙ start_is 16 parts are.in_row i part has.there.1
    ∙ ap (λ (n : ℕ). 16 + n) (sym (length-flat_map (λ (p : PartBytes). p.bytes.now) (take i parts))) in
    let long = whole_long bytes has.whole in
    let left = length-drop (at - part.start) part.bytes.now in
    let from = has.from in
    let fits = are.fits in
    let width : at - 16 ≡ length front + (at - part.start) = omega (arith, start, from) in
    record {
      others = others;
      are = ap₂ drop width whole ∙ drop-append-add front (part.bytes.now ++ others) (at - part.start)
          ∙ drop-append-le (at - part.start) part.bytes.now others (omega (arith, long, left));
      whole = has.whole;
      fits = omega (arith, ap length whole, length-append front (part.bytes.now ++ others), length-append part.bytes.now others, start, fits, from, left, long);
    }

-- ---- reading again

-- the frame that is read from these bytes
read_there : (parts : List PartBytes) (at : ℕ) (bytes : List ℕ) → AreBytesFrom parts at bytes
    → frame_at_start (drop (at - 16) (bodies parts)) ≡ frame_at_start bytes
read_there parts at bytes in_order = ap frame_at_start in_order.are ∙ frame_at_start-more bytes in_order.others in_order.whole

same_map : {A B : Type 0} (f g : A → B) (xs : List A) → All (λ x. f x ≡ g x) xs → map f xs ≡ map g xs
same_map f g [] all = refl
same_map f g (x ∷ xs) all =
    ap (λ (y : _). y ∷ map f xs) (All-head (λ x. f x ≡ g x) x xs all)
    ∙ ap (λ (l : List _). g x ∷ l) (same_map f g xs (All-tail (λ x. f x ≡ g x) x xs all))

-- the frames stay the same when another part is added
pub frames_stay : (parts : List PartBytes) (places : List ℕ) (part : PartBytes) → AreKept parts places
    → frames_at (bodies (parts ++ part ∷ [])) places ≡ frames_at (bodies parts) places
frames_stay parts places part are =
    same_map (λ at. placed_at at (frame_at_start (drop (at - 16) (bodies (parts ++ part ∷ []))))) (λ at. placed_at at (frame_at_start (drop (at - 16) (bodies parts)))) places
    (λ i d inside.
    let at = get_or places i d in
    let has = are.frames i d inside in
    let in_order = bytes_from_place parts places at are has in
    let bytes = drop (at - has.part.start) has.part.bytes.now in
    let long = whole_long bytes has.whole in
    let rest = length-drop (at - 16) (bodies parts) in
    let both = ap length in_order.are ∙ length-append bytes in_order.others in
    let longer : frame_at_start (drop (at - 16) (bodies (parts ++ part ∷ []))) ≡ frame_at_start bytes
    = ap (λ (l : List ℕ). frame_at_start (drop (at - 16) l)) (bodies-push parts part)
    ∙ ap frame_at_start (drop-append-le (at - 16) (bodies parts) part.bytes.now (omega (arith, long, rest, both)))
    ∙ ap (λ (l : List ℕ). frame_at_start (l ++ part.bytes.now)) in_order.are
    ∙ ap frame_at_start (append_assoc bytes in_order.others part.bytes.now)
    ∙ frame_at_start-more bytes (in_order.others ++ part.bytes.now) has.whole
    in
    ap (placed_at at) (longer ∙ sym (read_there parts at bytes in_order)))

pub has_still : (parts : List PartBytes) (part : PartBytes) (at : ℕ) → HasFrameAt parts at → HasFrameAt (parts ++ part ∷ []) at
has_still parts part at has =
    record { part = has.part; there = Contains-append_left parts (part ∷ []) has.part has.there; from = has.from; whole = has.whole }

-- the frame at a place of the joined capture
abbrev frame_from : List ℕ → ℕ → PlacedFrame
frame_from body at = placed_at at (frame_at_start (drop (at - 16) body))

-- the frame with this number is read at the place with this number
pub there_is : (body places : List ℕ) (frames : List PlacedFrame) (number : ℕ) → frames_at body places ≡ frames → number < length frames
    → slice_get frames number ≡ Some (frame_from body (get_or places number 0))
there_is body places frames number is within =
    let long = ap length (sym is) ∙ length-map places (frame_from body) in
    ap (λ (l : List PlacedFrame). slice_get l number) (sym is)
    ∙ slice_get-map (frame_from body) places number
    ∙ ap (option_map (frame_from body)) (slice_get-get_or places number 0 (omega (arith, within, long)))

-- the frame that is read again is the frame with this number
pub read_at : (parts : List PartBytes) (places : List ℕ) (frames : List PlacedFrame) (number : ℕ) (bytes : List ℕ) (found : Frame)
    → frames_at (bodies parts) places ≡ frames → number < length frames → AreBytesFrom parts (get_or places number 0) bytes
    → placed_frame found ≡ placed_at (get_or places number 0) (frame_at_start bytes) → slice_get frames number ≡ Some (placed_frame found)
read_at parts places frames number bytes found is within in_order read =
    let at = get_or places number 0 in
    there_is (bodies parts) places frames number is within
    ∙ ap (λ (f : FrameText). Some (placed_at at f)) (read_there parts at bytes in_order)
    ∙ ap (λ (f : PlacedFrame). Some f) (sym read)

-- ---- the frames that have begun

-- the places up to this one come first
pub starts_first : (body places : List ℕ) (place : ℕ) → AllPairs AreApart (frames_at body places) → IsPartitionedBy (λ (n : ℕ). leb n place) places
starts_first body places place apart =
    IsPartitionedBy-leb (λ (n : ℕ). n) places place
    (pairs_rise (λ a b. AreApart (frame_from body a) (frame_from body b)) (λ (n : ℕ). n) (λ a b far. omega arith) places
    (pairs_unmap AreApart (frame_from body) places apart))

pub split_by_starts : (body places : List ℕ) (place n : ℕ) → n ≤ length places
    → IsPartitionPoint (λ (p : ℕ). leb p place ≡ true) (λ (p : ℕ). leb p place ≡ false) places n → IsSplitAt (frames_at body places) place n
split_by_starts body places place n within point =
    let long = length-map places (frame_from body) in
    record {
      within = omega (arith, within, long);
      before = λ i d less.
          let same = ap (λ (f : PlacedFrame). f.place) (get_or-map (frame_from body) places i 0 d (omega (arith, less, within))) in
          let begun = leb-true (get_or places i 0) place (point.0 i 0 (omega (arith, less)) less) in
          omega (arith, same, begun);
      after = λ i d from inside.
          let same = ap (λ (f : PlacedFrame). f.place) (get_or-map (frame_from body) places i 0 d (omega (arith, inside, long))) in
          let late = leb-false (get_or places i 0) place (point.1 i 0 from (omega (arith, inside, long))) in
          omega (arith, same, late);
    }

-- ---- the frames of one more part

abbrev pub starts_of : List PlacedFrame → List ℕ
starts_of frames = map (λ f. f.place) frames

-- frames that are read at their own places are read back
read_back : (body : List ℕ) (frames : List PlacedFrame) → All (λ there. frame_from body there.place ≡ there) frames
    → frames_at body (starts_of frames) ≡ frames
read_back body [] all = refl
read_back body (there ∷ frames) all =
    ap₂ (λ (f : PlacedFrame) (fs : List PlacedFrame). f ∷ fs) (All-head (λ there. frame_from body there.place ≡ there) there frames all)
    (read_back body frames (All-tail (λ there. frame_from body there.place ≡ there) there frames all))

module _ (row : List PartBytes) (old : List ℕ) (part : PartBytes) (frames : List PlacedFrame) (are : AreKept row old)
    (start : part.start ≡ 16 + length (bodies row)) (fits : part.start + length part.bytes.now < 2 ^ 64)
    (all : All (IsThere frame_parser part.start part.bytes.now) frames) where
  abbrev new_row : List PartBytes
  new_row = row ++ part ∷ []

  has_new : (there : PlacedFrame) → IsThere frame_parser part.start part.bytes.now there → HasFrameAt new_row there.place
  has_new there h = record {
    part = part;
    there = Contains-push row part;
    from = h.from;
    whole = whole_read h.state there.place (drop (there.place - part.start) part.bytes.now) there.unit h.is;
  }

  reads_new : (there : PlacedFrame) → IsThere frame_parser part.start part.bytes.now there → frame_from (bodies new_row) there.place ≡ there
  reads_new there h =
      let from = h.from in
      let far : there.place - 16 ≡ length (bodies row) + (there.place - part.start) = omega arith in
      ap (placed_at there.place)
      (ap frame_at_start (ap₂ drop far (bodies-push row part) ∙ drop-append-add (bodies row) part.bytes.now (there.place - part.start))
      ∙ sym (frame_read h.state there.place (drop (there.place - part.start) part.bytes.now) there.unit h.is).0)

  pub added : frames ≡ placed frame_width part.start (units_of frames) → AreAdded (kept row old) (kept new_row (old ++ starts_of frames)) (units_of frames)
  added placed_is = record {
    are_kept = record {
      in_row = row-push 16 row part are.in_row start;
      fits = omega (arith, ap length (bodies-push row part), length-append (bodies row) part.bytes.now);
      frames = All-append (HasFrameAt new_row) old (starts_of frames)
          (All-weaker (HasFrameAt row) (HasFrameAt new_row) (has_still row part) old are.frames)
          (All-map (HasFrameAt new_row) (λ f. f.place) frames
          (All-weaker (IsThere frame_parser part.start part.bytes.now) (λ there. HasFrameAt new_row there.place) has_new frames all));
    };
    added = map-append (frame_from (bodies new_row)) old (starts_of frames)
        ∙ ap₂ (λ (x y : List PlacedFrame). x ++ y) (frames_stay row old part are)
        (read_back (bodies new_row) frames
        (All-weaker (IsThere frame_parser part.start part.bytes.now) (λ there. frame_from (bodies new_row) there.place ≡ there) reads_new frames all)
        ∙ placed_is ∙ ap (λ (p : ℕ). placed frame_width p (units_of frames)) start);
  }
