-- The first fault of the content of frames: which frame has it, and where it is.
use Rattle.std.proofs.Common.{◌≡◌, ℕ, suc, ◌+◌, List, [], ◌∷◌, ◌++◌, take, drop, Option, Some, None, refl, sym, ap, ap₂, subst, ◌∙◌, append_assoc, arith}
use Rattle.std.proofs.lemmas.List.{take_more, take-append-drop}
use Rattle.std.proofs.lemmas.Option.{get_or_from_slice_get, slice_get_within}
use Rattle.std.specs.Prelude.{All, Contains, IfSome, IsSome, slice_get}
use Rattle.std.specs.Option.{option_map, option_or}
use Rattle.std.proofs.lemmas.List.Elements.{All-cons, All-head, All-nil, All-tail}
use Rattle.capture_frame.specs.declared.fault.Fault.{Fault}
use Rattle.capture_frame.specs.declared.frame.Frame.{Frame}
use Rattle.capture_frame.specs.Envelope.{PlacedFrame, placed_frame}
use Rattle.capture_frame.specs.Lookup.{Holds, IsFrameAt}
use Rattle.capture_frame.proofs.LookupLaws.{one_held, some_held}
use Rattle.transaction_view.specs.Grammar.{content_fault, first_content_fault, IsGood}
use Rattle.transaction_view.proofs.WholeLaws.{fault_held}
use Rattle.audit_judge.specs.Jobs.{AreSound, first_place}

first_again : (a b c : Option Fault) → option_or a (option_or b c) ≡ option_or (option_or a b) c
first_again None b c = refl
first_again (Some x) b c = refl

pub first_append : (frames more : List PlacedFrame)
    → first_content_fault (frames ++ more) ≡ option_or (first_content_fault frames) (first_content_fault more)
first_append [] more = refl
first_append (f ∷ frames) more =
    ap (option_or (content_fault f)) (first_append frames more)
    ∙ first_again (content_fault f) (first_content_fault frames) (first_content_fault more)

pub first_none : (a b : Option Fault) → option_or a b ≡ None → (a ≡ None) × (b ≡ None)
first_none None b none = (refl, none)
first_none (Some x) b none = let wrong : Some x ≡ None = none in absurd (cc)

-- frames are sound if there is no first fault, and only then
pub sound_of : (frames : List PlacedFrame) → first_content_fault frames ≡ None → AreSound frames
sound_of [] none = All-nil IsGood
sound_of (f ∷ frames) none =
    let both = first_none (content_fault f) (first_content_fault frames) none in
    All-cons IsGood f frames both.0 (sound_of frames both.1)

pub none_of : (frames : List PlacedFrame) → AreSound frames → first_content_fault frames ≡ None
none_of [] sound = refl
none_of (f ∷ frames) sound =
    ap₂ option_or (All-head IsGood f frames sound) (none_of frames (All-tail IsGood f frames sound))

first_or_later : (P : ℕ → Type 0) (f : PlacedFrame) (frames : List PlacedFrame) (here : Option Fault) → content_fault f ≡ here
    → ((x : ℕ) → Holds x f → P x) → IfSome (first_place frames) P
    → IfSome (option_map (λ (fault : Fault). fault.place) (option_or here (first_content_fault frames))) P
first_or_later P f frames None is one others = others
first_or_later P f frames (Some fault) is one others =
    let held = fault_held f fault is in
    let least = held.0 in
    let most = held.1 in
    one fault.place (omega (arith, least), omega (arith, most))

-- what holds of each place in these frames holds of that of the first fault
pub first_by : (P : ℕ → Type 0) (frames : List PlacedFrame) → All (λ (f : PlacedFrame). (x : ℕ) → Holds x f → P x) frames → IfSome (first_place frames) P
first_by P [] all = tt
first_by P (f ∷ frames) all =
    let Here : PlacedFrame → Type 0 = λ f. (x : ℕ) → Holds x f → P x in
    first_or_later P f frames (content_fault f) refl (All-head Here f frames all) (first_by P frames (All-tail Here f frames all))

-- the frame that has the first fault
pub record HasFirst (frames : List PlacedFrame) (fault : Fault) : Type 0 where
  pub frame : PlacedFrame
  pub there : Contains frames frame
  pub fails : content_fault frame ≡ Some fault

frame_or_later : (f : PlacedFrame) (frames : List PlacedFrame) (fault : Fault) (here : Option Fault) → content_fault f ≡ here
    → (first_content_fault frames ≡ Some fault → HasFirst frames fault) → option_or here (first_content_fault frames) ≡ Some fault
    → HasFirst (f ∷ frames) fault
frame_or_later f frames fault None here others is =
    let later = others is in
    let there = later.there in
    let inside = there.1 in
    record { frame = later.frame; there = (suc there.0, omega (arith, inside), there.2); fails = later.fails }
frame_or_later f frames fault (Some x) here others is = record { frame = f; there = (0, omega arith, refl); fails = here ∙ is }

pub first_frame : (frames : List PlacedFrame) (fault : Fault) → first_content_fault frames ≡ Some fault → HasFirst frames fault
first_frame [] fault is = let wrong : None ≡ Some fault = is in absurd (cc)
first_frame (f ∷ frames) fault is = frame_or_later f frames fault (content_fault f) refl (first_frame frames fault) is

-- it holds the place of the fault
pub holds_first : (frames : List PlacedFrame) (fault : Fault) (first : HasFirst frames fault) → Holds fault.place first.frame
holds_first frames fault first =
    let held = fault_held first.frame fault first.fails in
    let least = held.0 in
    let most = held.1 in
    (omega (arith, least), omega (arith, most))

-- ---- frame by frame

-- a list around one of its elements
pub one_after : (frames : List PlacedFrame) (i : ℕ) (f : PlacedFrame) → take (i + 1) frames ≡ take i frames ++ f ∷ []
    → frames ≡ take i frames ++ f ∷ drop (i + 1) frames
one_after frames i f more = sym (take-append-drop (i + 1) frames) ∙ ap (λ (t : List PlacedFrame). t ++ drop (i + 1) frames) more
    ∙ append_assoc (take i frames) (f ∷ []) (drop (i + 1) frames)

-- the first frames and one more
pub first_more : (frames : List PlacedFrame) (i : ℕ) (found : PlacedFrame) → slice_get frames i ≡ Some found → take (i + 1) frames ≡ take i frames ++ found ∷ []
first_more frames i found is =
    take_more frames i found (slice_get_within frames i found is)
    ∙ ap (λ (x : PlacedFrame). take i frames ++ x ∷ []) (get_or_from_slice_get frames i found found is)

-- one more frame without a fault
pub none_more : (frames : List PlacedFrame) (i : ℕ) (found : PlacedFrame) → slice_get frames i ≡ Some found → first_content_fault (take i frames) ≡ None
    → content_fault found ≡ None → first_content_fault (take (i + 1) frames) ≡ None
none_more frames i found there none good =
    ap first_content_fault (first_more frames i found there) ∙ first_append (take i frames) (found ∷ [])
    ∙ ap₂ option_or none (ap (λ (o : Option Fault). option_or o None) good)

-- the first frame with a fault
pub first_at : (frames : List PlacedFrame) (i : ℕ) (found : PlacedFrame) (fault : Fault) → slice_get frames i ≡ Some found
    → first_content_fault (take i frames) ≡ None → content_fault found ≡ Some fault → first_content_fault frames ≡ Some fault
first_at frames i found fault there none bad =
    let others = drop (i + 1) frames in
    ap first_content_fault (one_after frames i found (first_more frames i found there)) ∙ first_append (take i frames) (found ∷ others)
    ∙ ap₂ option_or none (ap (λ (o : Option Fault). option_or o (first_content_fault others)) bad)

-- ---- the frame at the place of the first fault

pub some_holds : (frames : List PlacedFrame) (place : ℕ) (result : Option Frame) (found : Option Fault) → first_content_fault frames ≡ found
    → option_map (λ (fault : Fault). fault.place) found ≡ Some place → IsFrameAt frames place result → IsSome result
some_holds frames place result None is at there = let wrong : None ≡ Some place = at in absurd (cc)
some_holds frames place result (Some fault) is at there =
    let first = first_frame frames fault is in
    let same : fault.place ≡ place = cc in
    some_held frames place result first.frame there first.there (subst (λ (n : ℕ). Holds n first.frame) same (holds_first frames fault first))

pub fails_there : (frames : List PlacedFrame) (place : ℕ) (result : Frame) (found : Option Fault) → first_content_fault frames ≡ found
    → option_map (λ (fault : Fault). fault.place) found ≡ Some place → IsFrameAt frames place (Some result) → content_fault (placed_frame result) ≡ found
fails_there frames place result None is at there = let wrong : None ≡ Some place = at in absurd (cc)
fails_there frames place result (Some fault) is at there =
    let first = first_frame frames fault is in
    let same : fault.place ≡ place = cc in
    ap content_fault (sym (one_held frames place result first.frame there first.there (subst (λ (n : ℕ). Holds n first.frame) same (holds_first frames fault first))))
    ∙ first.fails

pub some_first : (found : Option Fault) (place : ℕ) → option_map (λ (fault : Fault). fault.place) found ≡ Some place → IsSome found
some_first None place at = let wrong : None ≡ Some place = at in absurd (cc)
some_first (Some fault) place at = refl
