-- The calls of a thread, by the closer that matches each opener (docs/REPORT.md). By a law, `Calls.antt` finds the
-- same.
use Rattle.std.specs.Prelude.{◌≡◌, ℕ, Some, None, List, slice_get}
use Rattle.call_stacks.specs.Calls.{Reads, Bracketed, sides_of, verdict_read}
use Rattle.call_stacks.specs.Matching.{opener, Match, IsStray}
use Rattle.call_stacks.specs.Verdicts.{side_of}
use Rattle.call_stacks.specs.declared.opener.Opener.{Opener}
use Rattle.call_stacks.specs.declared.verdict.Verdict.TheVariants.{Open}

-- the verdict of the opener at a position: by the closer that matches it, or open if none does
pub data HasVerdict {E : Type 0} (reads : Reads E) (bracketed : List (Bracketed E)) (i : ℕ)
    (call : Opener E) : Type 0 where
  closed_by : (j : ℕ) (answer : Bracketed E) → Match (sides_of bracketed) i j → slice_get bracketed j ≡ Some answer
      → call.verdict ≡ verdict_read reads call.event answer.event → call.closer ≡ Some (reads.place answer.event)
      → HasVerdict reads bracketed i call
  left_open : ((j : ℕ) → ¬ (Match (sides_of bracketed) i j)) → call.verdict ≡ Open → call.closer ≡ None
      → HasVerdict reads bracketed i call

-- the call is one of the openers of these events, with its verdict and its closer's place
pub record IsOpener {E : Type 0} (reads : Reads E) (bracketed : List (Bracketed E)) (call : Opener E) : Type 0 where
  pub position : ℕ
  pub there : Bracketed E
  pub is_at : slice_get bracketed position ≡ Some there
  pub opens : side_of there.bracket ≡ opener
  pub event : call.event ≡ there.event
  pub verdict : HasVerdict reads bracketed position call

-- the event is one of the strays of these events: a closer that matches no opener
pub record IsStrayEvent {E : Type 0} (bracketed : List (Bracketed E)) (answer : E) : Type 0 where
  pub position : ℕ
  pub there : Bracketed E
  pub is_at : slice_get bracketed position ≡ Some there
  pub stray : IsStray (sides_of bracketed) position
  pub event : answer ≡ there.event
