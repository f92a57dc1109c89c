-- The sections `calls`, `served`, `strays` and `refused`: what became of the calls of each thread (docs/REPORT.md).
use Rattle.std.specs.Prelude.{◌||◌, not, Bool, true, false, List, filter, length, map, count_by, None}
use Rattle.event_core.specs.Events.{EventRead}
use Rattle.event_core.specs.declared.marks.Bracket.{Bracket}
use Rattle.event_core.specs.declared.marks.Bracket.TheVariants.{Call}
use Rattle.call_stacks.specs.Calls.{bracket_read, how_many, opener_read, refused_send, stray_read, with_verdict}
use Rattle.call_stacks.specs.Verdicts.{is_answered, is_crossed, is_failed, is_open, is_replied, lacks_reply}
use Rattle.call_stacks.specs.declared.findings.RefusedSend.{RefusedSend}
use Rattle.call_stacks.specs.declared.opener.Opener.{Opener}
use Rattle.call_stacks.specs.declared.verdict.Verdict.{Verdict}
use Rattle.audit_findings.specs.TextReads.{text_reads}
use Rattle.audit_findings.specs.Threads.{in_threads}
use Rattle.audit_findings.specs.declared.call_sections.CallSections.{CallSections}
use Rattle.audit_findings.specs.declared.calls.Calls.{Calls}
use Rattle.audit_findings.specs.declared.refused.Refused.{Refused}
use Rattle.audit_findings.specs.declared.served.Served.{Served}

-- the openers of all threads, in the order of the events: the calls that threads make and those that they serve, each
-- with what became of it
abbrev pub openers : List EventRead → List (Opener EventRead)
openers events = in_threads (opener_read text_reads) events

-- whether the bracket is that of a call that the thread makes
abbrev pub is_call_bracket : Bracket → Bool
is_call_bracket Call = true
is_call_bracket _ = false

-- whether the opener is a call that its thread makes
abbrev pub is_made : Opener EventRead → Bool
is_made o = is_call_bracket (bracket_read text_reads None o.event)

-- whether it is a call that its thread serves: every opener that is not made is served
abbrev pub is_served : Opener EventRead → Bool
is_served o = not (is_made o)

-- whether the verdict counts as unanswered: crossed or open
abbrev pub is_unanswered : Verdict → Bool
is_unanswered verdict = is_crossed verdict || is_open verdict

-- what `calls` says of the calls that threads make: how many there are, how many are answered, failed and unanswered,
-- and the calls that lack their reply
abbrev pub calls_of : List (Opener EventRead) → Calls EventRead
calls_of made = record {
  all = length made;
  answered = how_many is_answered made;
  failed = how_many is_failed made;
  unanswered = how_many is_unanswered made;
  rows = with_verdict lacks_reply made;
}

-- what `served` says of the calls that threads serve: how many there are, how many are replied, crossed and open, and
-- the calls that lack their reply
abbrev pub served_of : List (Opener EventRead) → Served EventRead
served_of served = record {
  all = length served;
  replied = how_many is_replied served;
  crossed = how_many is_crossed served;
  left_open = how_many is_open served;
  rows = with_verdict lacks_reply served;
}

-- the strays: the closers of all threads that close no opener of their thread
abbrev pub stray_closers : List EventRead → List EventRead
stray_closers events = in_threads stray_read events

-- the refused sends of all threads, each by the error reply that reports it
abbrev pub refused_sends : List EventRead → List (RefusedSend EventRead)
refused_sends events = in_threads (λ before found later. refused_send found) events

-- what `refused` says of these sends: how many of them are oneway, and the error replies that report them
abbrev pub refused_of : List (RefusedSend EventRead) → Refused EventRead
refused_of sends = record { oneway = count_by (λ s. s.oneway) sends; rows = map (λ s. s.event) sends }

-- what the four sections say of the calls of all threads
abbrev pub call_sections : List EventRead → CallSections EventRead
call_sections events = record {
  calls = calls_of (filter is_made (openers events));
  served = served_of (filter is_served (openers events));
  strays = stray_closers events;
  refused = refused_of (refused_sends events);
}
