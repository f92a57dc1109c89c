-- The events of frames, one frame after another.
use Rattle.std.proofs.Common.{◌≡◌, ℕ, ◌+◌, ◌-◌, ◌*◌, ◌<◌, ◌≤◌, ◌^◌, List, [], ◌∷◌, ◌++◌, length, All, sym, ap, subst, ◌∙◌, length-append, arith, get_or}
use Rattle.std.specs.Prelude.{AllPairs}
use Rattle.std.specs.List.{sum_by}
use Rattle.std.proofs.lemmas.Grind.{flat_map-append}
use Rattle.std.proofs.lemmas.List.{append-nil, map-append}
use Rattle.std.proofs.lemmas.List.Concat.{flat_map-cons}
use Rattle.std.proofs.lemmas.List.Elements.{All-append, All-nil, All-weaker}
use Rattle.std.proofs.lemmas.List.Sums.{sum_by-cons}
use Rattle.capture_frame.specs.Cut.{shown_by}
use Rattle.capture_frame.specs.Envelope.{PlacedFrame, commands_place, placed_frame}
use Rattle.capture_frame.specs.declared.frame.Frame.{Frame}
use Rattle.capture_frame.specs.Lookup.{AreApart, span_of}
use Rattle.event_core.specs.Events.{EventRead, events_of, events_of_frames}
use Rattle.event_core.proofs.FrameEvents.{events_few, events_rise, events_within, list_length, lists_small}
use Rattle.audit_findings.specs.Frames.{AreGoodFrames}
use Rattle.audit_findings.specs.Ledgers.{AreFewFrames, offset_bytes_of}
use Rattle.audit_findings.specs.Places.{RiseInPlace}
use Rattle.audit_findings.proofs.Rising.{all_flat, pairs_flat}

pub events-append : (frames others : List PlacedFrame) → events_of_frames (frames ++ others) ≡ events_of_frames frames ++ events_of_frames others
events-append frames others = flat_map-append events_of frames others

pub events_with : (frames : List PlacedFrame) (frame : PlacedFrame) → events_of_frames (frames ++ frame ∷ []) ≡ events_of_frames frames ++ events_of frame
events_with frames frame = events-append frames (frame ∷ []) ∙ ap (λ (es : List EventRead). events_of_frames frames ++ es) (append-nil (events_of frame))

-- if two lists are the same, so are their first elements, and the others
pub first_same : {A : Type 0} (x y : A) (xs ys : List A) → x ∷ xs ≡ y ∷ ys → (x ≡ y) × (xs ≡ ys)
first_same x y xs ys same = (cc, cc)

-- the place of the event is among the command bytes of the frame
abbrev pub IsWithin : PlacedFrame → EventRead → Type 0
IsWithin frame e = (commands_place frame.place ≤ e.place) × (e.place < commands_place frame.place + length frame.unit.commands)

-- what begins at this place or after it has its events after it
pub events_after : (place : ℕ) (frames : List PlacedFrame) → All (λ f. place ≤ f.place) frames → All (λ e. place < e.place) (events_of_frames frames)
events_after place frames from =
    all_flat (λ (e : EventRead). place < e.place) events_of frames
    (λ i d within k e inside.
    let first = from i d within in
    let own = events_within (get_or frames i d) k e inside in
    let begins = own.0 in
    omega (arith, first, begins))

-- what ends at this place or before it has its events before it
pub events_before : (place : ℕ) (frames : List PlacedFrame) → All (λ f. f.place + span_of f ≤ place) frames → All (λ e. e.place < place) (events_of_frames frames)
events_before place frames to =
    all_flat (λ (e : EventRead). e.place < place) events_of frames
    (λ i d within k e inside.
    let last = to i d within in
    let own = events_within (get_or frames i d) k e inside in
    let ends = own.1 in
    omega (arith, last, ends))

-- the events of frames that are apart rise
pub frames_rise : (frames : List PlacedFrame) → AllPairs AreApart frames → RiseInPlace (events_of_frames frames)
frames_rise frames apart =
    pairs_flat (λ (a b : EventRead). a.place < b.place) events_of frames (λ i d within. events_rise (get_or frames i d))
    (λ i j d below within k e inside l f there.
    let far = apart i j d below within in
    let first = events_within (get_or frames i d) k e inside in
    let second = events_within (get_or frames j d) l f there in
    let to = first.1 in
    let from = second.0 in
    omega (arith, far, to, from))

-- ---- the events of good frames are few

all_short : (frames : List PlacedFrame) → length (events_of_frames frames) + 32 * length frames ≤ sum_by span_of frames
all_short [] = omega arith
all_short (f ∷ frames) =
    let long = ap length (flat_map-cons events_of f frames) ∙ length-append (events_of f) (events_of_frames frames) in
    let one : length (f ∷ frames) ≡ length frames + 1 = omega arith in
    omega (arith, all_short frames, events_few f, long, one, sum_by-cons span_of f frames)

all_small : (n : ℕ) (frames : List PlacedFrame) → sum_by span_of frames ≤ n → All (λ e. offset_bytes_of e < n) (events_of_frames frames)
all_small n [] few = All-nil (λ (e : EventRead). offset_bytes_of e < n)
all_small n (f ∷ frames) few =
    let Small : EventRead → Type 0 = λ e. offset_bytes_of e < n in
    let all = sum_by-cons span_of f frames in
    let own = All-weaker (λ (e : EventRead). list_length e ≤ length f.unit.attachments - 12) Small (λ e small. omega (arith, small, few, all)) (events_of f) (lists_small f) in
    subst (All Small) (sym (flat_map-cons events_of f frames))
    (All-append Small (events_of f) (events_of_frames frames) own (all_small n frames (omega (arith, few, all))))

pub few_frames : (frames : List PlacedFrame) → AreGoodFrames frames → AreFewFrames frames
few_frames frames good =
    let short = all_short frames in
    let few = good.few in
    (omega (arith, short, few), ((omega (arith, short, few), frames_rise frames good.apart), all_small (2 ^ 32) frames few))

-- good views of frames that follow others show few frames
pub few_shown : (first second : List Frame) → AreGoodFrames (shown_by (first ++ second)) → AreFewFrames (shown_by first ++ shown_by second)
few_shown first second good = few_frames (shown_by first ++ shown_by second) (subst AreGoodFrames (map-append placed_frame first second) good)
