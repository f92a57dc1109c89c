-- The latest mark before an event of a thread (docs/REPORT.md). By a law, `Calls.antt` brackets each event by this
-- mark.
use Rattle.std.specs.Prelude.{◌≡◌, ℕ, List, ◌∷◌, ◌++◌, All, Option, Some, None, slice_get, take}
use Rattle.call_stacks.specs.Calls.{Reads, Bracketed, bracket_read, mark_read}
use Rattle.event_core.specs.declared.marks.Mark.{Mark}

-- none of these events leaves a mark
abbrev pub LeaveNoMark : {E : Type 0} → Reads E → List E → Type 0
LeaveNoMark reads events = All (λ e. mark_read reads e ≡ None) events

-- The latest mark that these events leave: one of them leaves it, and none after that one leaves any. There is none if
-- none of them leaves any.
abbrev pub IsLatestMark : {E : Type 0} → Reads E → List E → Option Mark → Type 0
IsLatestMark reads events None = LeaveNoMark reads events
IsLatestMark {E} reads events (Some mark) =
    (before : List E) × (e : E) × (after : List E) × (events ≡ before ++ e ∷ after) × (mark_read reads e ≡ Some mark)
    × LeaveNoMark reads after

-- the event at this position of these events, bracketed by the latest mark that those before it leave
pub record IsBracketedAt {E : Type 0} (reads : Reads E) (events : List E) (n : ℕ) (found : Bracketed E) : Type 0 where
  pub event : slice_get events n ≡ Some found.event
  pub before : IsLatestMark reads (take n events) found.before
  pub bracket : found.bracket ≡ bracket_read reads found.before found.event
