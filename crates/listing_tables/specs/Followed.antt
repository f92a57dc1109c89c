-- When a call that is followed is closed, by the definitions of call_stacks.
use Rattle.std.specs.Prelude.{◌≡◌, ◌==◌, Bool, false, List, [], length}
use Rattle.call_stacks.specs.Calls.{CallsSum, event_place, event_reads, openers_of, with_verdict}
use Rattle.call_stacks.specs.Verdicts.{is_open}
use Rattle.call_stacks.specs.declared.call_record.CallEvent.{CallEvent}
use Rattle.listing_tables.specs.declared.followed.Followed.{Followed}
use Rattle.summary_law.specs.Fits.{IsPlaced}
use Rattle.summary_law.specs.Summary.{Adds}

-- no record was followed yet
abbrev pub HasNone : Followed → Type 0
HasNone followed = CallsSum event_reads false followed.calls []

-- whatever records of the thread the old value followed, the new one followed these with this one after them
abbrev pub FollowsOneMore : Followed → CallEvent → Followed → Type 0
FollowsOneMore old event new = Adds (CallsSum event_reads false) (IsPlaced event_place) old.calls event new.calls

-- whatever records of the thread the value followed, the answer is whether all calls that these open are closed
abbrev pub SaysClosed : Followed → Bool → Type 0
SaysClosed followed answer =
    (events : List CallEvent) → CallsSum event_reads false followed.calls events
    → answer ≡ (length (with_verdict is_open (openers_of event_reads events)) == 0)
