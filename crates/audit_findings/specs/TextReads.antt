-- What is read of an event for the calls of its thread.
use Rattle.event_core.specs.Brackets.{is_oneway}
use Rattle.event_core.specs.Events.{EventRead}
use Rattle.call_stacks.specs.Calls.{Reads}

-- of an event: its place, its kind, and whether it is a oneway transaction
abbrev pub text_reads : Reads EventRead
text_reads = record { place = λ e. e.place; kind = λ e. e.kind; oneway = λ e. is_oneway e.kind e.payload }
