-- What becomes of a call, by the closer that matches its opener (docs/REPORT.md).
use Rattle.std.specs.Prelude.{not, Bool, true, false}
use Rattle.event_core.specs.declared.marks.Bracket.{Bracket}
use Rattle.event_core.specs.declared.marks.Bracket.TheVariants.{Call, Served, Reply, Sent, Error, Refused, Neither}
use Rattle.call_stacks.specs.declared.verdict.Verdict.{Verdict}
use Rattle.call_stacks.specs.declared.verdict.Verdict.TheVariants.{Answered, Failed, Replied, Crossed, Open}
use Rattle.call_stacks.specs.Matching.{Side, opener, closer, neither}

-- which side of a call a bracket is: an opener, a closer or neither
abbrev pub side_of : Bracket → Side
side_of Call = opener
side_of Served = opener
side_of Reply = closer
side_of Sent = closer
side_of Error = closer
side_of Refused = neither
side_of Neither = neither

-- The verdict of a call by what closes it. A call that the thread makes is answered by a reply that it gets, and failed
-- by an error reply. A call that it gets to serve is replied by a reply that it sends. Closed by anything else, a call
-- is crossed.
abbrev pub verdict_of : Bracket → Bracket → Verdict
verdict_of Call Reply = Answered
verdict_of Call Error = Failed
verdict_of Served Sent = Replied
verdict_of _ _ = Crossed

-- whether a call that the thread made is answered: a reply that it got closes it
abbrev pub is_answered : Verdict → Bool
is_answered Answered = true
is_answered _ = false

-- whether a call that the thread made is failed: an error reply closes it
abbrev pub is_failed : Verdict → Bool
is_failed Failed = true
is_failed _ = false

-- whether a served call is replied: a reply that the thread sent closes it
abbrev pub is_replied : Verdict → Bool
is_replied Replied = true
is_replied _ = false

-- whether a call is crossed: what closes it can't be its answer
abbrev pub is_crossed : Verdict → Bool
is_crossed Crossed = true
is_crossed _ = false

-- whether a call is open: nothing closes it
abbrev pub is_open : Verdict → Bool
is_open Open = true
is_open _ = false

-- whether something closes the call
abbrev pub is_closed : Verdict → Bool
is_closed verdict = not (is_open verdict)

-- whether a call has its reply: it is answered or replied
abbrev pub has_reply : Verdict → Bool
has_reply Answered = true
has_reply Replied = true
has_reply _ = false

-- whether a call lacks its reply: it is failed, crossed or open
abbrev pub lacks_reply : Verdict → Bool
lacks_reply verdict = not (has_reply verdict)
