-- The sections `buffers` and `frees`: leaked deliveries and stray frees (docs/REPORT.md).
use Rattle.std.specs.Prelude.{List}
use Rattle.event_core.specs.Events.{EventRead}
use Rattle.process_ledgers.specs.Items.{buffer_pending_of}
use Rattle.audit_findings.specs.Places.{EventTest, is_stray_close, is_unclosed, passing_events}

-- whether the event is a leaked delivery: no later free has its address
abbrev pub is_leaked : EventTest
is_leaked = is_unclosed buffer_pending_of

-- the leaked deliveries: those whose address no later free of their process has
abbrev pub leaked : List EventRead → List EventRead
leaked events = passing_events is_leaked events

-- the stray frees: in their process no earlier delivery or free has their address, or the latest one that has it is a
-- free
abbrev pub stray_frees : List EventRead → List EventRead
stray_frees events = passing_events (is_stray_close buffer_pending_of) events
