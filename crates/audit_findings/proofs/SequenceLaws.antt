-- The sequences of frames, and of frames after them.
use Rattle.std.proofs.Common.{◌≡◌, ◌≢◌, ◌+◌, List, [], ◌∷◌, ◌++◌, length, refl, sym, ◌∙◌, length-append, arith}
use Rattle.capture_frame.specs.Envelope.{PlacedFrame}
use Rattle.audit_findings.specs.declared.sequences.Sequences.{Sequences}
use Rattle.audit_findings.specs.Findings.{last_sequence}
use Rattle.audit_findings.specs.Ledgers.{SumsFrames}

-- how many frames there are, and whether there are none
pub frame_count : (s : Sequences) (frames : List PlacedFrame) → SumsFrames s frames → s.frames ≡ length frames
frame_count s [] sums = sums
frame_count s (f ∷ frames) sums = let n = sums.0 in omega (arith, n)

-- the last frame of some followed by others is the last of the others
last_of-append : (first : PlacedFrame) (frames : List PlacedFrame) (next : PlacedFrame) (others : List PlacedFrame)
    → last_sequence first (frames ++ next ∷ others) ≡ last_sequence next others
last_of-append first [] next others = refl
last_of-append first (f ∷ frames) next others = last_of-append f frames next others

-- the join of sequences that both have frames
pub both_have : (s later joined : Sequences) (before others : List PlacedFrame) → SumsFrames s before → SumsFrames later others
    → s.frames ≢ 0 → later.frames ≢ 0 → joined.frames ≡ s.frames + later.frames → joined.first ≡ s.first → joined.last ≡ later.last
    → SumsFrames joined (before ++ others)
both_have s later joined [] others sums more some some_more frames first last = absurd (some sums)
both_have s later joined (f ∷ before) [] sums more some some_more frames first last = absurd (some_more more)
both_have s later joined (f ∷ before) (g ∷ others) sums more some some_more frames first last =
    let a = sums.0 in
    let b = more.0 in
    let long = length-append before (g ∷ others) in (
      omega (arith, frames, a, b, long),
      first ∙ sums.1,
      last ∙ more.2 ∙ sym (last_of-append f before g others),
    )

-- one more frame
pub one_more : (s new : Sequences) (before : List PlacedFrame) (next : PlacedFrame) → SumsFrames s before → new.frames ≡ s.frames + 1
    → (s.frames ≡ 0 → new.first ≡ next.unit.sequence) → (s.frames ≢ 0 → new.first ≡ s.first) → new.last ≡ next.unit.sequence
    → SumsFrames new (before ++ next ∷ [])
one_more s new [] next sums frames none some last = (omega (arith, frames, sums), none sums, last)
one_more s new (f ∷ before) next sums frames none some last =
    let a = sums.0 in
    let long = length-append before (next ∷ []) in
    let more : s.frames ≢ 0 = λ zero. absurd (omega (arith, a, zero)) in (
      omega (arith, frames, a, long),
      some more ∙ sums.1,
      last ∙ sym (last_of-append f before next []),
    )
