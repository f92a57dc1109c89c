-- What each function of `Calls` does to what the value holds.
use Rattle.std.specs.Prelude.{◌≡◌, ℕ, ◌+◌, ◌-◌, ◌^◌, min, if◌then◌else◌, Bool, Option, Some}
use Rattle.std.specs.Prelude.{List, [], ◌∷◌, ◌++◌}
use Rattle.event_core.specs.declared.marks.Bracket.{Bracket}
use Rattle.event_core.specs.declared.marks.Bracket.TheVariants.{Call, Served, Reply, Sent, Error, Refused, Neither}
use Rattle.event_core.specs.declared.marks.Mark.{Mark}
use Rattle.std.specs.Option.{option_or}
use Rattle.call_stacks.specs.declared.calls.Calls.{Calls}
use Rattle.call_stacks.specs.declared.findings.RefusedSend.{RefusedSend}
use Rattle.call_stacks.specs.declared.opener.Opener.{Opener}
use Rattle.call_stacks.specs.declared.verdict.Verdict.{Verdict}
use Rattle.call_stacks.specs.Calls.{Reads, verdict_read, is_oneway_mark, kept_of, open_call}
use Rattle.call_stacks.specs.Verdicts.{is_answered, is_replied}

-- what a value of `Calls` holds, with lists in place of its vectors
pub record Content (E : Type 0) : Type 0 where
  pub last : Option Mark
  pub undecided : Option E
  pub unmatched : List E
  pub closed : List (Opener E)
  pub answered : ℕ
  pub replied : ℕ
  pub strays : List E
  pub refused : List (RefusedSend E)

-- what this value holds
abbrev pub content_of : {E : Type 0} → Calls E → Content E
content_of calls = record {
  last = calls.last;
  undecided = calls.undecided;
  unmatched = calls.unmatched.items;
  closed = calls.closed.items;
  answered = calls.answered;
  replied = calls.replied;
  strays = calls.strays.items;
  refused = calls.refused.items;
}

-- the call with its verdict and its closer's place, once this event closes it
abbrev pub closed_with : {E : Type 0} → Reads E → E → Opener E → Opener E
closed_with reads closer opener =
    record { event = opener.event; verdict = verdict_read reads opener.event closer; closer = Some (reads.place closer) }

-- the sum of two numbers, but at most 2^64 - 1
abbrev pub sum_64 : ℕ → ℕ → ℕ
sum_64 a b = min (a + b) (2 ^ 64 - 1)

-- one more, if the test is true
abbrev pub one_more : Bool → ℕ → ℕ
one_more test number = if test then sum_64 number 1 else number

-- a call with this verdict is counted
abbrev pub counted : {E : Type 0} → Verdict → Content E → Content E
counted verdict old = record old {
  answered = one_more (is_answered verdict) old.answered;
  replied = one_more (is_replied verdict) old.replied;
}

-- a closed call is taken in: it is counted, and kept if such calls are kept
abbrev pub taken : {E : Type 0} → Bool → Opener E → Content E → Content E
taken all_kept call old = record (counted call.verdict old) { closed = old.closed ++ kept_of all_kept (call ∷ []) }

-- a call is opened
abbrev pub begun : {E : Type 0} → E → Content E → Content E
begun event old = record old { unmatched = old.unmatched ++ event ∷ [] }

-- the latest send is refused
abbrev pub refused_too : {E : Type 0} → E → Content E → Content E
refused_too event old =
    record old { refused = old.refused ++ record { event = event; oneway = is_oneway_mark old.last } ∷ [] }

-- the closer closes the innermost call that is open; if none is open, the closer is a stray
pub data Closes {E : Type 0} (reads : Reads E) (all_kept : Bool) (old : Content E) (closer : E) (new : Content E) : Type 0 where
  closes_last : (front : List E) (event : E) → old.unmatched ≡ front ++ event ∷ []
      → new ≡ taken all_kept (closed_with reads closer (open_call event)) (record old { unmatched = front })
      → Closes reads all_kept old closer new
  closes_none : old.unmatched ≡ [] → new ≡ record old { strays = old.strays ++ closer ∷ [] }
      → Closes reads all_kept old closer new

-- each of the closers in turn closes the innermost call that is open then, or is a stray
abbrev pub ClosesAll : {E : Type 0} → Reads E → Bool → Content E → List E → Content E → Type 0
ClosesAll {E} reads all_kept old [] new = new ≡ old
ClosesAll {E} reads all_kept old (closer ∷ closers) new =
    (next : Content E) × Closes reads all_kept old closer next × ClosesAll reads all_kept next closers new

-- what an event with this bracket does: it opens a call, closes one, reports a refused send, or does nothing
abbrev pub Enters : {E : Type 0} → Reads E → Bool → Bracket → E → Content E → Content E → Type 0
Enters reads all_kept Call event old new = new ≡ begun event old
Enters reads all_kept Served event old new = new ≡ begun event old
Enters reads all_kept Reply event old new = Closes reads all_kept old event new
Enters reads all_kept Sent event old new = Closes reads all_kept old event new
Enters reads all_kept Error event old new = Closes reads all_kept old event new
Enters reads all_kept Refused event old new = new ≡ refused_too event old
Enters reads all_kept Neither event old new = new ≡ old

-- all that a later piece has is appended, except its strays and its undecided error reply
abbrev pub appended : {E : Type 0} → Content E → Content E → Content E
appended later old = record old {
  last = option_or later.last old.last;
  unmatched = old.unmatched ++ later.unmatched;
  closed = old.closed ++ later.closed;
  answered = sum_64 old.answered later.answered;
  replied = sum_64 old.replied later.replied;
  refused = old.refused ++ later.refused;
}
